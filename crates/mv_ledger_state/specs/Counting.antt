-- How the values of structs are counted over a run, and what of them the ledger promises.
pub mod Kept
pub mod Fine
pub mod Headline
pub mod Conservation
