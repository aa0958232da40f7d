pub mod ClosingLemmas
pub mod DoublingLemmas
pub mod FrontLemmas
pub mod NumberLemmas
pub mod RunLemmas
