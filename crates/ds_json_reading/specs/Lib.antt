-- in the order in which they are best read
pub mod Reading
pub mod Keys
pub mod Values
