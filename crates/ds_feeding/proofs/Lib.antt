pub mod CatchingUpLaws
pub mod EndLaws
pub mod FeedLaws
