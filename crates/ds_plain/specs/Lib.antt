pub mod Answers
pub mod FoundRows
pub mod Ways
