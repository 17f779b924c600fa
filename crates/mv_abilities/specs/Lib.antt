pub mod Abilities
