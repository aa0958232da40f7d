pub mod Ends
pub mod Halving
pub mod Meetings
pub mod Plans
pub mod Raises
pub mod Refusals
pub mod SearchReplies
mod Words
