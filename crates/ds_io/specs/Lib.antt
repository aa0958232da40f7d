pub mod FaultLaws
pub mod Faults
pub mod Memory
pub mod Standard
