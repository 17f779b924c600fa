pub mod Spelled
pub mod Front
pub mod Form
