pub mod CommonStrings
pub mod Spans
pub mod Targets
pub mod Walks
