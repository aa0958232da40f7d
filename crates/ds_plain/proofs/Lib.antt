pub mod AnswerLaws
pub mod FoundLaws
pub mod LongLaws
pub mod WayLaws
