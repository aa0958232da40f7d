pub mod Unsent
pub mod Writes
pub mod Looking
pub mod Room
