pub mod Ends
pub mod Example
pub mod Laws
pub mod Reached
pub mod Rewritten
