pub mod Expanding
pub mod Laws
pub mod Merging
pub mod Rewriting
pub mod Ways
