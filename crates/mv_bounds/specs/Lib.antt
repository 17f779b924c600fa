pub mod Codes
pub mod Answers
pub mod Cycles
pub mod Removal
pub mod Containment
