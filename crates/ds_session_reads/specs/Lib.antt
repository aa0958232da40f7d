pub mod Steps
pub mod Wide
