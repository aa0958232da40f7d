pub mod Settles
pub mod Meets
pub mod Gets
pub mod StrongReads
pub mod Ended
pub mod Tails
