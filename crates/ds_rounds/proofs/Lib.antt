pub mod AbsorbLaws
pub mod CallLaws
pub mod DraftLaws
pub mod LineLaws
pub mod NewlineLaws
pub mod ReadLaws
pub mod SpanLaws
