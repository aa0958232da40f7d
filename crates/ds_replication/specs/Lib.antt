pub mod Exits
pub mod Lines
pub mod Printing
pub mod Replicating
pub mod Scripts
