pub mod Beginnings
pub mod Growing
pub mod Announcing
pub mod Turning
pub mod Counting
pub mod Publishing
