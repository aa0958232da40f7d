pub mod Entities
pub mod EntityOrder
