pub mod Axes
pub mod Example
pub mod Laws
pub mod Limits
pub mod Moves
pub mod Records
pub mod Words
