-- Every state of a run is as the certificates say, so no run over published modules meets a fault: nothing lost is read,
-- nothing frozen is written. The statements are `RunsAreFaultless` and `StatesHold` (specs/Guided/Published.antt).
--
-- Read first Guided (the invariant) and Facts (what it rests on), then Working, Rows and Keeps.
--   Store                    a store of accepted modules with their certificates
--   Working, Chains          `working`: the invariant taken apart at the frame at work; `sound-from`, `guided-from`
--   Tiles, Before            `goes-on`: what a certificate says before an instruction leads to what it says after it
--   Accepted, Results        `flows-at`, `entered-known`, `returns-as`: where a callee begins, and what it returns
--   Ends, GoesWell           a rule's parts one after the other; what rules look up and compute goes well
--   Unfrozen, Avoids         `local-not-frozen`, `nothing-frozen`, `local-unreached`: what no live reference leads into
--   Rows                     `rule-ends`: every rule but those of Call and Ret meets nothing lost and nothing frozen
--   Keeps                    `step-keeps`: each step leads to a state that is as the certificates say
--   Guards                   `guards`: the invariant gives what the theory of types needs of borrows
--   Runs, Whole              `begins`, `guides`, `run_faultless`: the start of a run, and the whole of it
--   Tells, LinkFacts         `tells`, `store-facts`: what types and link rules tell this theory
--   Covering                 `holds`: the invariant in the words of the definition
--   Published                `runs_faultless`, `states_hold`: the laws, over published modules
pub mod Common
pub mod Guided
pub mod Facts
pub mod Store
pub mod Tiles
pub mod Before
pub mod Ends
pub mod Chains
pub mod Working
pub mod Avoids
pub mod GoesWell
pub mod Unfrozen
pub mod Rows
pub mod Accepted
pub mod Results
pub mod Keeps
pub mod Guards
pub mod Runs
pub mod Covering
pub mod Whole
pub mod LinkFacts
pub mod Tells
pub mod Published
