pub mod Counted
pub mod Groups
pub mod Lanes
pub mod Planned
pub mod Plans
pub mod Searches
pub mod Snapshots
