pub mod CutSettings
pub mod CutWords
