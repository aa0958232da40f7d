pub mod Committing
pub mod Touched
