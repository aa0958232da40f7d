pub mod Ballots
pub mod Forms
pub mod Holdings
pub mod Members
pub mod Rules
pub mod Runs
pub mod Worlds
