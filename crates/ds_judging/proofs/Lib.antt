pub mod CommitLaws
pub mod JudgeLaws
pub mod MemoryReplies
pub mod OperationLaws
