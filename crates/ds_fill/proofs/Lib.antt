mod LegalRuns
mod NumberLaws
