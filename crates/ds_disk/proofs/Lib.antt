pub mod Refusals
pub mod StateLaws
pub mod Tells
