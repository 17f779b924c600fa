-- The proofs of what a ledger holds. The theories, each with an index at its head: Counting (the count holds) and Accepted (a ledger
-- stays sound). The rooms, after what the calls do: Bundles, Runs. Of use in several:
--   Shapes, ShapesOfArguments, Spelling   payloads and texts are read exactly where they have their shape
--   Extending, Unreading                  what is read stays so with more bytes behind it, and what isn't read
--   TalliedStores                         what a store with its tallies has, and what keeps it one
--   Phases                                which phase is answered
--   Handed                                what the proofs of saved ledgers take of lower crates
--   Marks                                 what is held at the marks of open blocks, and what leaves it
pub mod TallyWords
pub mod Common
pub mod Lists
pub mod Spelling
pub mod TalliedStores
pub mod Phases
pub mod ShapesOfArguments
pub mod Shapes
pub mod Extending
pub mod Unreading
pub mod Counting
pub mod Accepted
pub mod Bundles
pub mod Runs
pub mod Handed
pub mod Marks
