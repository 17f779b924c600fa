-- The proofs of saved ledgers. The rooms, each with an index at its head: Saves and Loads. Of both:
--   SavedOnce, SavedFails, NeverRefused   one ledger to a text, one reason where there is none, and none against what is saved
pub mod Common
pub mod SavedOnce
pub mod SavedFails
pub mod Saves
pub mod NeverRefused
pub mod Loads
