pub mod MissedLaws
pub mod OwnLaws
pub use Rattle.ds_session.proofs.GrowthLaws
pub use Rattle.ds_session.proofs.LineLaws
pub use Rattle.ds_session.proofs.SeeingLaws
