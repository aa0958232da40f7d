pub mod Keepers
pub mod Reading
