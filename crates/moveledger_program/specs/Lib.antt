pub mod Meter
pub mod Following
