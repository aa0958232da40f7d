pub mod ClientLemmas
pub mod EntitiesLemmas
pub mod SeveralLemmas
pub mod FoundLemmas
pub mod LawfulLemmas
pub mod CommonLaws
pub mod PropertiesLaws
pub mod QueryLaws
