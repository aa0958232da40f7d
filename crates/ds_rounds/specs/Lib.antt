pub mod Drafts
pub mod Lines
pub mod Reading
pub mod ReadingLaws
pub mod Rounds
pub mod Spans
