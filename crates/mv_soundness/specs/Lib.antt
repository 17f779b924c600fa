pub mod Typing
pub mod Borrows
pub mod Guided
pub mod Words
