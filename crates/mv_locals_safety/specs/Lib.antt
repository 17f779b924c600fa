pub mod Domain
pub mod Joins
pub mod Laws
pub mod Places
pub mod Rising
