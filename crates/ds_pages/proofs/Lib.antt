pub mod FirstLaws
pub mod MarkLaws
pub mod PageLaws
pub mod PlaceLaws
pub mod PlaceOrder
