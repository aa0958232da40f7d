pub mod Bounds
pub mod Kept
pub mod Prefixes
pub mod RangeLaws
pub mod Ranges
pub mod Ranging
pub mod Scans
pub mod Stamped
