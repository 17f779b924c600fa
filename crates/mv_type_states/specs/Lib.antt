pub mod Answers
pub mod Scopes
