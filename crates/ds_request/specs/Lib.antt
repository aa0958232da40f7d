-- in the order in which they are best read
pub mod Requests
pub mod Entities
pub mod Lawful
pub mod Members
pub mod Common
