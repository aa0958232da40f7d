pub mod Choices
pub mod Indexes
pub mod Lean
pub mod Missing
pub mod Parts
pub mod Suits
