-- The proofs of the ledger's calls. The rooms, after what the calls do: Runs, Shows. Of use in several:
--   Records             what a record asks is in its range, and each record that is answered is answered well
--   Replying, Ledgers   what is replied, and that what a ledger holds stays as it has to
--   Marks, BlockWise    what was held where open blocks were begun, that replies leave it, and how blocks are begun and closed
--   Asked               what is asked of a ledger by names and addresses
pub mod Common
pub mod Records
pub mod Ledgers
pub mod Replying
pub mod Marks
pub mod BlockWise
pub mod Runs
pub mod Shows
pub mod Asked
pub mod ModuleChanges
