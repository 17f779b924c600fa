pub mod Least
pub mod Principal
pub mod States
