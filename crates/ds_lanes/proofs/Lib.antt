pub mod Marked
pub mod Loads
pub mod Found
pub mod Stores
pub mod Laws
