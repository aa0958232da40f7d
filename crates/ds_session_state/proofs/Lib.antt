pub mod GrowthLaws
pub mod LaterReplies
pub mod ReadLaws
pub mod ReplyLaws
pub mod SayingLaws
pub mod SeeingLaws
pub mod StandingLaws
pub mod StateLaws
