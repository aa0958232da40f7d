pub mod AppliedLists
pub mod ByKey
pub mod Routing
pub mod Sources
