pub mod Books
pub mod Drafts
