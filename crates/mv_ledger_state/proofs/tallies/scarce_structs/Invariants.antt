use Rattle.mv_ledger_state.proofs.Common.{◌≡◌, map, take, enumerate_from, filter, is_scarce_struct}
use Rattle.mv_ledger_state.proofs.tallies.scarce_structs.Given as goal

abbrev pub invariant-loop-i : goal.invariant-loop-i
invariant-loop-i l = l.indices.items ≡ map (λ p. p.0) (filter (λ p. is_scarce_struct l.m p.1) (take l.i (enumerate_from 0 l.m.structs)))
