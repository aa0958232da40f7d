pub mod Passes
pub mod Answered
pub mod Ending
pub mod Loads
