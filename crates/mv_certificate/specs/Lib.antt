pub mod Answers
pub mod Parsing
pub mod Reads
pub mod Laws
pub mod Functions
pub mod Known
