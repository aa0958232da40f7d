pub mod Histories
pub mod Writers
pub mod Versions
