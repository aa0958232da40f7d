pub mod PartLaws
pub mod KeyLaws
pub mod ValueLaws
