-- Runs of linked code over words, and that they do what the machine does.
pub mod FlatStep
pub mod FlatRun
pub mod Represents
pub mod Follows
pub mod Outcomes
pub mod Laws
pub mod Agreement
pub mod Published
pub mod Offsets
