pub mod NextBytes
pub mod WrittenLaws
