pub mod Computed
pub mod Finding
pub mod Intervals
pub mod Neighbours
pub mod Pairs
pub mod Pointwise
pub mod Prefixes
pub mod Proved
