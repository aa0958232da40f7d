pub mod Alike
pub mod Bounds
mod Cancelling
pub mod ContinuedLaws
mod Counting
pub mod EndLaws
pub mod NextLaws
pub mod RoundLaws
