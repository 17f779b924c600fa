use Rattle.mv_linker.proofs.Common.{◌≡◌, Global, Option, Vec, map, offered, rows_after, Defined, Size}
use Rattle.mv_linker.proofs.rules.sizes.rows_of.Given as goal

abbrev pub invariant-loop-round : goal.invariant-loop-round
invariant-loop-round l = map (λ (r : Vec (Option Size) Global). r.items) l.rows.items ≡ rows_after l._round (offered l.bundle) (map (λ (d : Vec Defined Global). d.items) l.defined)
