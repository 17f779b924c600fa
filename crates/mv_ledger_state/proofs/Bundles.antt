-- The proofs of publishing: where the modules of a bundle come to stand, and what the store and the tallies are then.
--   Places         Where the modules of a bundle stand in the store that it joins, and the tallies of each module then.
--   Heirs          What stands in a module's place after a bundle: the module itself, or one of its name that may replace it. Its structs stay.
--   Staying        What is stored stays as it was where a bundle is published: its words are fine, and stand for the same values.
--   Sized          Texts and certificates are within their limits: those of a bundle, and so those of the store that it joined.
--   Placing        The modules of a bundle are placed one after the other.
--   Verifying      Offers are verified one after the other.
--   TalliesFresh   The tallies of a module that is published.
--   TalliesJoined  The tallies after a bundle: each struct with neither copy nor drop has the one that it had, or an empty one.
--   Joining        A bundle that may join, and was placed: the store and the tallies after it.
pub mod Places
pub mod Heirs
pub mod Staying
pub mod Sized
pub mod Placing
pub mod Verifying
pub mod TalliesFresh
pub mod TalliesJoined
pub mod Joining
