pub mod Lengths
pub mod TextLaws
