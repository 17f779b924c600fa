pub mod Tables
pub mod Stacks
pub mod Between
pub mod Free
pub mod Reborrows
pub mod NoEdges
pub mod Rows
pub mod Abstract
