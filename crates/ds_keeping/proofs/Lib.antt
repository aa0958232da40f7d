pub mod Between
pub mod Covering
pub mod Lists
