pub mod ByName
pub mod Handles
pub mod Identifiers
pub mod Interface
pub mod Outline
pub mod Shapes
pub mod Spans
pub mod TypesByDefinition
