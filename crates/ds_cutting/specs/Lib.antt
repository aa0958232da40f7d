pub mod CutRuns
pub mod CutSteps
pub mod LegalCut
