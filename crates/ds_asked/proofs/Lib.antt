pub mod Asking
mod Inputs
