pub mod Loads
