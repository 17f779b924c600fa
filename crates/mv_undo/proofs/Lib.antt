pub mod Undoing
pub mod Parts
pub mod Lasts
