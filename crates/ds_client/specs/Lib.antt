pub mod Clients
pub use Rattle.ds_session.specs.Answering
pub use Rattle.ds_session.specs.GoingOnLaws
pub use Rattle.ds_session.specs.Meeting
pub use Rattle.ds_session.specs.Room
pub use Rattle.ds_session.specs.Sessions
