-- in the order in which they are best read
pub mod Printing
pub mod Objects
pub mod Outputs
pub mod OutputLaws
