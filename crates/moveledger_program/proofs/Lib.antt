pub mod FirstBytes
pub mod Passing
