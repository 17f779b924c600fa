-- The proofs of the store and of phase 13. Of general use are ListTests, Orders, Outcomes, Members (modules among others) and Named
-- (structs by where they are defined);
-- mv_interface has those on one module, and mv_link_rules those on the rules.
-- Common passes on the words that the proofs speak of all along, and Lemmas the lemmas that most of them cite.
-- The rooms, each with an index at its head:
--   Joining      a bundle joins a store
--   Cycles       rule f, and who depends on whom
--   StructSizes  rule g
--   LinkedCode   the code that stands for a module's
--   Kept         what else the store keeps
pub mod Counted
pub mod KeptSlots
pub mod Common
pub mod Copies
pub mod ListTests
pub mod Orders
pub mod Outcomes
pub mod Members
pub mod Lemmas
pub mod Joining
pub mod Cycles
pub mod StructSizes
pub mod LinkedCode
pub mod Kept
pub mod Named
pub mod StructPlaces
pub mod Terms
