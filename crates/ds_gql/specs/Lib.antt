pub mod Arguments
pub mod GqlLaws
pub mod Sentences
pub mod Statements
pub mod Steps
pub mod Taking
