-- The words of the theory: places and labels, references and edges that cover them, frames, rows and the chain of frames.
pub mod Places
pub mod Covers
pub mod Rows
pub mod Stack
pub mod Lists
