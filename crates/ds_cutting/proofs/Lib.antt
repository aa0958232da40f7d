pub mod Crossing
pub mod CutEnds
pub mod CutLaws
pub mod Going
pub mod Outcomes
pub mod RowLaws
