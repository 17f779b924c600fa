pub mod Common
pub mod Stacks
pub mod ReturnLemmas
pub mod LocalLemmas
pub mod HeightLemmas
pub mod BlockLemmas
pub mod Found
