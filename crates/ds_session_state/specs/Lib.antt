pub mod Answering
pub mod Refusing
pub mod Replying
pub mod Sessions
pub mod Standing
