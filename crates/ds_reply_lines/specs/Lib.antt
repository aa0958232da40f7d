pub mod LawfulResults
pub mod ReplyLines
