pub mod ItemLaws
pub mod MemberLaws
pub mod NumberLaws
pub mod OutcomeLaws
pub mod TokenLaws
