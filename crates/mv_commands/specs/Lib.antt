pub mod Line
pub mod Keeping
pub mod Marks
pub mod Fresh
pub mod FreshMoments
pub mod Names
pub mod Shelf
