pub mod Committing
pub mod Writing
