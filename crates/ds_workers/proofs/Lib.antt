pub mod Appending
pub mod Beginnings
pub mod EachLaws
