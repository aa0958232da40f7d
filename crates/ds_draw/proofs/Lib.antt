pub mod EachOnce
pub mod Gathered
pub mod Numbers
pub mod Steps
