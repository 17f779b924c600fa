pub mod SavedText
pub mod Loading
pub mod SavedLaws
pub mod Layouts
pub mod Inside
pub mod Flowing
pub mod Parts
