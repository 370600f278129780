pub mod Changes
pub mod Example
pub mod Laws
pub mod Questions
pub mod Roots
pub mod Rows
pub mod Sizes
pub mod Tests
