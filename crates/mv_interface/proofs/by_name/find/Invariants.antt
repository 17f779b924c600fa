use Rattle.mv_interface.proofs.Common.{◌-◌, ◌≤◌, ℕ, List, length}
use Rattle.mv_interface.specs.ByName.{IsByName, indices_in}
use Rattle.mv_interface.proofs.ByHalves.{IsSearch}
use Rattle.mv_interface.proofs.by_name.find.Given as goal

abbrev pub invariant-search : goal.invariant-search
invariant-search l = record {
  within : l.high ≤ length l.entries;
  so_far : (names : List (List ℕ)) → IsByName l.identifiers names l.entries → IsSearch names (indices_in l.entries) l.name l.low l.high;
}

abbrev pub decreases-search : goal.decreases-search
decreases-search l = l.high - l.low
