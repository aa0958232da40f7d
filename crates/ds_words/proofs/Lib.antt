pub mod ItemLaws
pub mod NumberLaws
