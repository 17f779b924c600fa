pub mod Covers
pub mod Invariant
