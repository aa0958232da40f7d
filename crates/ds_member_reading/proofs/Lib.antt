pub mod ArraysLemmas
pub mod MemberLaws
pub mod TermLaws
