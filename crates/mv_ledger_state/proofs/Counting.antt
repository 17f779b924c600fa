-- The count holds: of each struct with neither copy nor drop as many values are stored as were packed and not unpacked in runs
-- that returned, by code of the struct's own module. The laws are `EveryRunConserves` and `EveryRunIsOwnWork`
-- (specs/Counting/Conservation.antt), and `EveryCountIsTallied` (Headline.antt beside it).
--
-- Read first Held (how many values a state holds), specs/Counting/Kept.antt (which values are kept) and Fine (which states are
-- fine), and of mv_machine proofs/Effects (what an instruction does to values), RuleEffects (`rule-ends`: each instruction's rule is one of these ten) and Runs (`run-keeps`: what every step keeps a run keeps), then:
--   Own                            `run-own`: values are made by their own module's code
--   Counts, Stored                 `kept-append`, `kept-with`: counts in values and in the storage
--   Packs, Declared                `packed-kept`, `declared-by`: what abilities say of a struct's values
--   Keeps, Conserved               `kept-root`, `effect-balances`, `run-conserves`: an effect balances what is held against what is made and unmade
--   Typed, Admitted                `fine-kept`, `admitted-entry`: what the store and admission give a run to begin with
--   Tallied, Ended                 `scarce-all`, `returned-balanced`, `bundle-balanced`, `counts-tallied`: which structs have a tally; the tallies stay balanced
--   Worked                         the words at work
pub mod Held
pub mod Fine
pub mod Own
pub mod Counts
pub mod Stored
pub mod Packs
pub mod Keeps
pub mod Conserved
pub mod Admitted
pub mod Declared
pub mod Tallied
pub mod Typed
pub mod Ended
pub mod Worked
