pub mod Lawful
pub mod Lines
pub mod Reading
pub mod ReadingBack
pub mod Texts
