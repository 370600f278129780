pub mod Checks
pub mod Format
pub mod Layout
pub mod Limits
pub mod Meaning
pub mod Names
