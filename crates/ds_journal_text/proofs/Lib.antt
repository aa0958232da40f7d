mod Appending
pub mod Bytes
pub mod CommitsBack
pub mod CommitsPlain
pub mod EntitiesBack
mod FormsRefused
mod JournalReading
pub mod KeysBack
pub mod PlainData
pub mod PlainTexts
pub mod ValuesBack
