pub mod Calls
pub mod Domain
pub mod Laws
pub mod There
