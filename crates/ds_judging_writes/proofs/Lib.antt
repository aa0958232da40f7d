pub mod Allowed
pub mod CommitLines
pub mod IdLaws
pub mod PutLaws
pub mod WritesTold
