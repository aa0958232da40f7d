pub mod Line
pub mod Logs
pub mod Holding
pub mod Growing
pub mod Running
pub mod Copied
