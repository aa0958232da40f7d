pub mod PrintableLaws
pub mod PrintedLaws
pub mod PrintingLaws
pub mod PrintingSteps
pub mod TokenLaws
pub mod WrittenNames
