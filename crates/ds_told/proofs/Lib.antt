pub mod Accepted
mod Counting
mod Joining
mod RangeOrder
pub mod ToldLaws
