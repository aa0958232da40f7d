pub mod Counts
pub mod Shares
pub mod Asked
pub mod Found
pub mod Rounds
pub mod Puts
pub mod Journals
pub mod Ends
pub mod LineData
pub mod Conclusions
pub mod WritingLaws
mod TellingSome
pub mod Telling
