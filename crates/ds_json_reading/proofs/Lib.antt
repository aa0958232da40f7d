pub mod CompletedKeys
pub mod Each
pub mod EntriesLemmas
pub mod KeysLemmas
pub mod MembersLemmas
pub mod ReadsLemmas
pub mod SomeLemmas
pub mod ValuesLemmas
