pub mod Classes
pub mod Directions
pub mod Elements
pub mod Escapes
pub mod Keys
pub mod Putting
pub mod Readings
pub mod Runs
