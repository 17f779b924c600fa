-- What parts of the code keep, for the contracts of private functions: no public contract cites it.
--   LayoutParts  The kinds of the leaves of structs, by what their fields are made of.
--   BodyParts    What stands in the text of a saved ledger after its modules, read from its front.
--   LoadedParts  The parts of which the loading of a ledger is made, and how they stand to its text.
--   CountRows    Counts of the values of structs, module by module.
--   Saving       How the values that are stored are written struct by struct.
--   Steps        The steps of a save, each of which makes the next bytes.
--   Fillings     Stored values that are read one after the other, and become storage once all of them are read.
pub mod LayoutParts
pub mod BodyParts
pub mod LoadedParts
pub mod CountRows
pub mod Saving
pub mod Steps
pub mod Fillings
