pub mod Kernels
pub mod Hits
