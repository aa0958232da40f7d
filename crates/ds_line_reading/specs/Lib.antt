-- in the order in which they are best read
pub mod Parts
pub mod Tables
pub mod TableLaws
