-- Which values and states are typed, and what a step does from a typed state.
pub mod HasType
pub mod StateTyped
pub mod Unreached
pub mod Outcome
pub mod Accepted
pub mod CallTyped
pub mod Laws
