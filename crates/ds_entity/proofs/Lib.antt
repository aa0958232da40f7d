pub mod EntityLaws
pub mod Sums
