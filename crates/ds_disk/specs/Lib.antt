pub mod Crashes
pub mod CrashLaws
pub mod Memory
pub mod HonestLaws
pub mod MemoryLaws
pub mod MomentLaws
pub mod TornLaws
