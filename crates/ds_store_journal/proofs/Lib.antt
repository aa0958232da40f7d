pub mod Appending
pub mod HandedOut
