pub mod Chains
pub mod Fields
pub mod LeastEdges
pub mod LeastLocals
pub mod Marks
pub mod Modules
pub mod OneLeast
