pub mod Behind
pub mod KeptReplies
pub mod KeptRuns
pub mod KeptSettings
pub mod KeptWords
pub mod Statuses
