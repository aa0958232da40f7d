mod Citing
pub mod DuePlans
pub mod Gatherings
pub mod Growing
pub mod Grown
pub mod Left
pub mod Lifted
pub mod Lowering
pub mod OperationPlans
mod Plans
mod PutPlans
mod QueryPlans
pub mod ReadPlans
pub mod Stepped
mod ToldPlans
mod ToldRefusals
mod TransactionPlans
mod Words
mod WriteAnswers
