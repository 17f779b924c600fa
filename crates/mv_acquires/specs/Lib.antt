pub mod Acquires
pub mod Marks
