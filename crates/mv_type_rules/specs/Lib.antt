pub mod TypeRules
pub mod TypesHold
pub mod TypesAt
pub mod Sound
pub mod Tops
pub mod Graphs
pub mod Stacks
