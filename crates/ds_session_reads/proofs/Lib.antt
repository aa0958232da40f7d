pub mod CountLaws
pub mod FoundLaws
pub mod RefusedSearches
pub mod SearchLaws
pub mod WideLaws
