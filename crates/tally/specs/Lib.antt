pub mod Laws
pub mod Limits
pub mod Semirings
pub mod Tallies
