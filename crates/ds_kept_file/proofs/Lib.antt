pub mod Batches
mod Bodies
mod Counters
mod Ends
mod Following
pub mod Splits
mod Walks
