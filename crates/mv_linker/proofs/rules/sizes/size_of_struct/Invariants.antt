use Rattle.mv_linker.proofs.Common.{◌≡◌, ◌≤◌, Global, Option, Vec, drop, map, size_of_token, total_of, Size}
use Rattle.mv_linker.proofs.StructSizes.Totals.{plus}
use Rattle.mv_linker.proofs.rules.sizes.size_of_struct.Given as goal

abbrev pub invariant-loop-f : goal.invariant-loop-f
invariant-loop-f l = record {
  few : l.leaves ≤ 256;
  total : total_of (size_of_token (map (λ (r : Vec (Option Size) Global). r.items) l.rows) l.defined) l.fields
      ≡ plus l.leaves l.deepest (total_of (size_of_token (map (λ (r : Vec (Option Size) Global). r.items) l.rows) l.defined) (drop l.f-index l.fields));
}
