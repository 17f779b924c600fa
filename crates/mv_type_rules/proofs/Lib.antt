pub mod Common
pub mod Steps
pub mod PartLemmas
pub mod TopLemmas
pub mod Functions
