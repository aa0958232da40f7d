pub mod ShardLists
pub mod EntryOrder
pub mod OwnEntries
pub mod Stands
pub mod Applies
pub mod Beginnings
