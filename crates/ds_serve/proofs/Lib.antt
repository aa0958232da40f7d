pub mod Behind
pub mod Ends
pub mod SameSetting
pub mod Unset
