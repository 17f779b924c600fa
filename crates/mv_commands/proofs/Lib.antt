pub mod Tasks
pub mod Buffers
pub mod Numbers
