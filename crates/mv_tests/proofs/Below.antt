-- Counts that are below a number.
use Rattle.std.proofs.Common.{◌≡◌, ℕ, ◌+◌, ◌≤◌, Bool, true, false, List, [], Ok, sym, subst, ⊎_elim, arith}
use Rattle.std.proofs.lemmas.Bool.{cases_Bool}
use Rattle.mv_move_types.specs.declared.tables.Definition.{Definition}
use Rattle.mv_machine.specs.declared.StructTally.{StructTally}
use Rattle.mv_frames.specs.Counters.{Count, Counts, counts_in, one_more, is_same_definition, IsBelow, IsCounted, AreBelow}

-- where nothing is counted, each count is below one
pub below-clear : (ts : List StructTally) → ts ≡ [] → AreBelow 1 (counts_in ts)
below-clear ts none d = subst (λ (xs : List StructTally). IsBelow 1 (counts_in xs d)) (sym none) (omega arith, omega arith)

pub below-weaker : (n k : ℕ) (m : Counts) → n ≤ k → AreBelow n m → AreBelow k m
below-weaker n k m h below d = (omega (arith, (below d).0), omega (arith, (below d).1))

more : (is_pack : Bool) (n : ℕ) (c : Count) → IsBelow n c → IsBelow (n + 1) (one_more is_pack c)
more true n c h = (omega (arith, h.0), omega (arith, h.1))
more false n c h = (omega (arith, h.0), omega (arith, h.1))

-- one value more, and each count is below the next number
pub below-counted : (n : ℕ) (is_pack : Bool) (d : Definition) (m k : Counts) → IsCounted m is_pack d (Ok tt) k → AreBelow n m → AreBelow (n + 1) k
below-counted n is_pack d m k counted below q =
    subst (IsBelow (n + 1)) (sym (counted q))
    (⊎_elim
    (λ (here : is_same_definition d q ≡ true). rw here (more is_pack n (m q) (below q)))
    (λ (off : is_same_definition d q ≡ false). rw off (omega (arith, (below q).0), omega (arith, (below q).1)))
    (cases_Bool (is_same_definition d q)))
