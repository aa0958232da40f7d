pub mod Kept
pub mod Replies
mod Stops
