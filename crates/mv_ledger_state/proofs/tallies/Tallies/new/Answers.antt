use Rattle.mv_ledger_state.proofs.Common.{List, ap, map, subst, sym, Global, Vec, ArePlaced, Tally}
use Rattle.mv_ledger_state.proofs.tallies.Tallies.new.Goals as goal

pub invariant_of-result : goal.invariant_of-result
invariant_of-result c = subst (λ (vs : List (Vec Tally Global)). ArePlaced 0 (map (λ (v : Vec Tally Global). v.items) vs)) (sym c.new.ensures.items) tt

pub returns : goal.returns
returns c = ap (map (λ (v : Vec Tally Global). v.items)) c.new.ensures.items
