pub mod ColumnEnds
pub mod Members
pub mod PairLists
pub mod PlanLaws
pub mod Plans
pub mod ScanLaws
pub mod Served
pub mod SuggestionLaws
