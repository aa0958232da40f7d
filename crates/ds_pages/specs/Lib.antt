pub mod Columns
pub mod Extended
pub mod FirstRows
pub mod Marks
pub mod Pages
pub mod Places
pub mod Slots
