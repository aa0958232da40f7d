pub mod ShardHubs
