pub mod Counters
pub mod Files
pub mod Readings
