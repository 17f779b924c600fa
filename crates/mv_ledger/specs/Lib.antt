pub mod Running
pub mod Answering
pub mod Changes
pub mod Formats
pub mod ParameterTypes
pub mod Marks
pub mod Questions
pub mod Changed
