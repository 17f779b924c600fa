pub mod Held
pub mod InPlace
pub mod Listed
pub mod Piecewise
pub mod States
pub mod Told
pub mod ProvenanceGraph
