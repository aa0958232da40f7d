pub mod FoundLaws
pub mod FrontLaws
pub mod GetLaws
pub mod GetSteps
pub mod KindLaws
pub mod SearchLaws
