use Rattle.mv_linker.proofs.Common.{◌≡◌, Global, Option, Vec, map, take, offered, next_rows, Defined, Size}
use Rattle.mv_linker.proofs.rules.sizes.next_rows.Given as goal

abbrev pub invariant-loop-i : goal.invariant-loop-i
invariant-loop-i l =
    map (λ (r : Vec (Option Size) Global). r.items) l.next.items
    ≡ next_rows (map (λ (r : Vec (Option Size) Global). r.items) l.rows) (take l.i (offered l.bundle)) (take l.i (map (λ (d : Vec Defined Global). d.items) l.defined))
