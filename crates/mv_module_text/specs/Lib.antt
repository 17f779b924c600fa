pub mod Entries
pub mod Fits
pub mod Parsing
pub mod Reads
pub mod Writes
pub mod Written
pub mod Laws
