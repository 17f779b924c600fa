pub mod Outcome
pub mod Published
