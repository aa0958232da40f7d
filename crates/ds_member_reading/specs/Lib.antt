-- in the order in which they are best read
pub mod Forms
pub mod Queries
