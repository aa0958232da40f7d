pub mod KeptStamps
pub mod QueryLaws
