pub mod Audits
pub mod Exits
