-- The proofs of what a run adds to the tallies.
--   ScarceTallies       The tallies of modules' structs with neither copy nor drop: each is of such a struct, and those of a module stand by ascending index.
--   TalliesFound        The tally of a run's entry among those of its module, which stand by ascending index.
--   TalliesAfter        Tallies after a run.
--   TalliesByModule     A run's tally as it is added, entry by entry, each to the tallies of its module alone.
pub mod ScarceTallies
pub mod TalliesFound
pub mod TalliesAfter
pub mod TalliesByModule
