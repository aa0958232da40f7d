pub mod Chains
pub mod Escapes
pub mod Symbols
