pub mod StoreRules
pub mod Upgrades
pub mod Link
