-- The proofs of saving: the sections of the structs with key, the leaves of their values, and the whole text.
--   LayoutParts   Of what the fields of structs are made, and the kinds of their leaves.
--   KeyedIndices  The structs of a module that have key, as they are found one after the other.
--   Coding        Leaves that are coded one after the other.
--   Sections      Sections of structs: empty ones, and one with one value more.
--   Filling       What is stored, as it is put into the sections of its structs.
--   Written       The parts of a saved ledger, as they are written one after the other.
--   Batches       Some of the structs with key: in which order they stand, and what is stored of them.
--   Steps         The steps of a save: what each makes comes next, and then what is left.
--   SavedStored   A saved storage can be told from what follows it, in both forms.
--   Saved         A ledger has one text of each form, and a text is of one ledger.
--   SavedLoads    What is saved of a sound ledger is loaded, what is loaded is sound, and what is loaded is saved as it was.
--   Flows         The pieces of a save are the saved text.
--   SavedRows     Texts of worked ledgers, by computation: an empty one, and one with a coin of 7, whose module has 99 bytes.
pub mod LayoutParts
pub mod KeyedIndices
pub mod Coding
pub mod Sections
pub mod Filling
pub mod Written
pub mod Batches
pub mod Steps
pub mod SavedStored
pub mod Saved
pub mod SavedLoads
pub mod Flows
mod SavedRows
