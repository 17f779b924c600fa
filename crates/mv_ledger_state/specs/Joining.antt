-- How the tallies of a bundle's modules come to their places.
--   with_placed tss placed    the tallies of each module, with those of each module of a bundle at its place
--   AreWithin count placed    each is that of a module that is there or of the next one
use Rattle.std.specs.Prelude.{◌≡◌, ℕ, ◌+◌, ◌≤◌, nat_lt, All, cond, List, [], ◌∷◌, fold}
use Rattle.mv_linker.specs.Stored.{with_at}
use Rattle.mv_machine.specs.declared.Tally.{Tally}
use Rattle.mv_ledger_state.specs.declared.tallies.Placed.{Placed}

-- the tallies of each module, with those of each module of a bundle at its place, be it the next one
abbrev pub with_placed : List (List Tally) → List Placed → List (List Tally)
with_placed tss placed = fold (λ tss p. with_at p.place p.tallies.items tss) tss placed

-- each list is that of a module that is there or of the next one, and its tallies are of that place
abbrev pub AreWithin : ℕ → List Placed → Type 0
AreWithin count [] = Unit {0}
AreWithin count (p ∷ ps) =
    (p.place ≤ count) × All (λ t. t.place ≡ p.place) p.tallies.items × AreWithin (cond (nat_lt p.place count) count (count + 1)) ps
