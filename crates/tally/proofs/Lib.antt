pub mod Carrying
pub mod Sums
