pub mod Values
pub mod Reports
pub mod Asked
pub mod Changed
pub mod Fronts
