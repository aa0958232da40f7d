mod AuditLaws
mod Bounds
mod WordsLaws
mod WritingLaws
