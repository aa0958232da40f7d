pub mod Rows
pub mod Histories
pub mod Expiries
pub mod Contents
pub mod Shards
pub mod States
