pub mod Bounds
pub mod Definitions
pub mod Places
pub mod Functions
pub mod Times
pub mod TypesByName
