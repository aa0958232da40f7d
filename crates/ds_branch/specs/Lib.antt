pub mod Behind
pub mod BoundSums
pub mod Common
pub mod Kept
pub mod Merging
pub mod Places
pub mod Reading
pub mod ScanLaws
