pub mod Inverse
pub mod Readback
pub mod Starts
pub mod Verdicts
pub mod Walks
pub mod Writing
