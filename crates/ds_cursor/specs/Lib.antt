pub mod CursorLaws
pub mod Cursors
pub mod QueryBytes
pub mod RowSteps
pub mod RowsOfColumns
