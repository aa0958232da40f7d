pub mod Continued
pub mod Rounds
pub mod Runs
pub mod Settings
