pub mod NameOrder
pub mod OrderLemmas
pub mod Projecting
pub mod Selection
pub mod Telling
