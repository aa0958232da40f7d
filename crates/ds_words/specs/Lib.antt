pub mod Exits
pub mod Form
pub mod Items
