pub mod Clients
pub mod Moving
pub mod Runs
pub mod Showing
pub use Rattle.ds_client.specs.Sessions
