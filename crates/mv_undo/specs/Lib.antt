pub mod Undo
pub mod Parts
