pub mod Uleb
pub mod Parsing
pub mod Reading
pub mod Laws
