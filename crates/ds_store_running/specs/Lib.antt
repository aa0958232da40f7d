pub mod Strong
pub mod Lower
pub mod Tailing
pub mod Wide
