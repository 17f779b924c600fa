pub mod Lists
pub mod Pieces
pub mod Counts
pub mod Tallied
