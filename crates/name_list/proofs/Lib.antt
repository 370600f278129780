pub mod Judging
pub mod Slices
pub mod Splits
pub mod Texts
