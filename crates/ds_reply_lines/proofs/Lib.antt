pub mod PlainReplies
pub mod PlainResults
mod Puts
pub mod RepliesBack
pub mod Splitting
