mod Noting
mod Numbers
mod Found
mod Kept
mod VersionLaws
mod NoneCounted
mod SeenLaws
pub mod StrongReads
pub mod KindResults
