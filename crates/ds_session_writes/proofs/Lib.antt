pub mod AloneLaws
pub mod IdLaws
pub mod InsideLaws
pub mod TransactionLaws
pub mod WriteLaws
pub mod WrittenLaws
