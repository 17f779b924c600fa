pub mod FlatState
pub mod Frames
pub mod Counters
pub mod WordLists
pub mod Moves
pub mod Room
