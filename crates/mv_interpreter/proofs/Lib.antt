pub mod Edits
pub mod Counting
pub mod Entering
pub mod Turning
mod Halves
mod Rounds
pub mod Flat
pub mod TypedCalls
pub mod Joined
mod StoredPieces
mod GivenBack
mod Overwriting
