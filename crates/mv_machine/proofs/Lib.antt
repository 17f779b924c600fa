pub mod Common
pub mod Computed
pub mod Coin
pub mod Empty
pub mod Rows
pub mod Reported
pub mod Laws
pub mod Binds
pub mod LocalRules
pub mod StructRules
pub mod ReferenceRules
pub mod GlobalRules
pub mod Operations
pub mod Transfers
pub mod Effects
pub mod RuleEffects
pub mod Runs
mod Operators
mod Deep
mod Calls
mod Offsets
