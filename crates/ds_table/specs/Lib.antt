pub mod Versions
pub mod Blocks
pub mod Changes
pub mod Places
pub mod Heads
pub mod Seen
pub mod UndoLaws
pub mod AliveLaws
