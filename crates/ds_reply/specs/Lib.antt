pub mod EntityPrinting
-- in the order in which they are best read
pub mod Replies
pub mod Refusals
pub mod Results
pub mod Names
pub mod MemberNames
pub mod Shown
pub mod Orders
pub mod Projections
