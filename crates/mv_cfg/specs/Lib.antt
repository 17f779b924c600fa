pub mod Blocks
pub mod Graph
pub mod FlowGraph
pub mod Steps
