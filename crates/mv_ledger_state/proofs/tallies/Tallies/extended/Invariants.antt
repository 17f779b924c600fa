use Rattle.mv_ledger_state.proofs.Common.{◌++◌, ◌≡◌, map, fresh_tally}
use Rattle.mv_ledger_state.proofs.tallies.Tallies.extended.Given as goal

abbrev pub invariant-loop-index : goal.invariant-loop-index
invariant-loop-index l = l.tallies.items ≡ l.initial.tallies.items ++ map (fresh_tally l.place) (map (λ y. y.now) l.yielded)
