pub mod Input
pub mod Items
pub mod Matches
pub mod Telling
