pub mod Fitting
pub mod LegalFrom
pub mod Restored
