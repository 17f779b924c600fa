-- Reading so many entries, one after another.
use Rattle.std.proofs.Common.{◌≡◌, ℕ, ◌-◌, ◌+◌, ◌<◌, ◌≤◌, List, [], ◌∷◌, ◌++◌, Some, None, Result, Ok, Err, option_map, arith, refl, ap, suc, sym, ◌∙◌, append_assoc, append-nil, subst}
use Rattle.std.specs.Result.{IsErrAnd}
use Rattle.std.specs.declared.vec.Vec.{Vec}
use Rattle.std.specs.declared.alloc.Global.{Global}
use Rattle.mv_uleb.specs.Parsing.{number_from}
use Rattle.mv_move_types.specs.Options.{◌>>=◌}
use Rattle.mv_move_types.specs.declared.refusal.Refusal.{Refusal}
use Rattle.mv_move_types.specs.declared.refusal.Refusal.TheVariants.{Phase}
use Rattle.mv_module_text.specs.Parsing.{Read, entries_from, counted_from}
use Rattle.mv_module_text.specs.Reads.{Collects}

-- entries after others
abbrev pub after : {A : Type 0} → List A → List A × List ℕ → List A × List ℕ
after items r = (items ++ r.0, r.1)

-- what was read of the first i of n entries
pub record ReadsOn {A : Type 0} (each : List ℕ → Read A) (n i : ℕ) (start : List ℕ) (items : List A) (cur : List ℕ) : Type 0 where
  pub goes : entries_from each n start ≡ option_map (after items) (entries_from each (n - i) cur)

-- nothing before
pub after-nil : {A : Type 0} (o : Read (List A)) → o ≡ option_map (after []) o
after-nil None = refl
after-nil (Some r) = refl

-- none are read yet
pub ReadsOn-start : {A : Type 0} (each : List ℕ → Read A) (n : ℕ) (start : List ℕ) → ReadsOn each n 0 start [] start
ReadsOn-start each n start = let z : n - 0 ≡ n = omega arith in record { goes = rw z (after-nil (entries_from each n start)) }

-- one before the others
pub after-push : {A : Type 0} (items : List A) (x : A) (o : Read (List A))
    → option_map (after items) (o >>= λ xs. Some (x ∷ xs.0, xs.1)) ≡ option_map (after (items ++ x ∷ [])) o
after-push items x None = refl
after-push items x (Some r) = ap (λ z. Some (z, r.1)) (sym (append_assoc items (x ∷ []) r.0))

-- what reading the next gives
entries_from-next : {A : Type 0} (each : List ℕ → Read A) (k : ℕ) (cur next : List ℕ) (x : A) → each cur ≡ Some (x, next)
    → entries_from each (suc k) cur ≡ (entries_from each k next >>= λ xs. Some (x ∷ xs.0, xs.1))
entries_from-next each k cur next x e = rw e refl

-- one more is read
pub ReadsOn-next : {A : Type 0} (each : List ℕ → Read A) (n i : ℕ) (start : List ℕ) (items : List A) (cur next : List ℕ) (x : A)
    → i < n → each cur ≡ Some (x, next) → ReadsOn each n i start items cur → ReadsOn each n (i + 1) start (items ++ x ∷ []) next
ReadsOn-next each n i start items cur next x lt e g =
    let k : n - i ≡ suc (n - (i + 1)) = omega arith in
    record {
      goes = g.goes ∙ ap (λ z. option_map (after items) (entries_from each z cur)) k
          ∙ ap (option_map (after items)) (entries_from-next each (n - (i + 1)) cur next x e)
          ∙ after-push items x (entries_from each (n - (i + 1)) next);
    }

-- the next can't be read
pub entries_from-stops : {A : Type 0} (each : List ℕ → Read A) (k : ℕ) (cur : List ℕ) → each cur ≡ None → entries_from each (suc k) cur ≡ None
entries_from-stops each k cur e = rw e refl

-- the entries after a count
counted_from-at : {A : Type 0} (most : ℕ) (each : List ℕ → Read A) (n : ℕ) (bytes start : List ℕ) → number_from most bytes ≡ Some (n, start)
    → counted_from most each bytes ≡ entries_from each n start
counted_from-at most each n bytes start e = ap (λ r. r >>= λ c. entries_from each c.0 c.1) e

-- all are read
pub ReadsOn-end : {A : Type 0} (each : List ℕ → Read A) (most n i : ℕ) (bytes start : List ℕ) (items : List A) (cur : List ℕ)
    → number_from most bytes ≡ Some (n, start) → n ≤ i → ReadsOn each n i start items cur → counted_from most each bytes ≡ Some (items, cur)
ReadsOn-end each most n i bytes start items cur e le g =
    let k : n - i ≡ 0 = omega arith in
    counted_from-at most each n bytes start e ∙ g.goes ∙ ap (λ z. option_map (after items) (entries_from each z cur)) k
    ∙ ap (λ z. Some (z, cur)) (append-nil items)

-- one can't be read
pub ReadsOn-stops : {A : Type 0} (each : List ℕ → Read A) (most n i : ℕ) (bytes start : List ℕ) (items : List A) (cur : List ℕ)
    → number_from most bytes ≡ Some (n, start) → i < n → each cur ≡ None → ReadsOn each n i start items cur → counted_from most each bytes ≡ None
ReadsOn-stops each most n i bytes start items cur e lt none g =
    let k : n - i ≡ suc (n - (i + 1)) = omega arith in
    counted_from-at most each n bytes start e ∙ g.goes ∙ ap (λ z. option_map (after items) (entries_from each z cur)) k
    ∙ ap (option_map (after items)) (entries_from-stops each (n - (i + 1)) cur none)

-- what is collected where one can't be read
pub ReadsOn-refuses : {A : Type 0} (each : List ℕ → Read A) (most n i : ℕ) (bytes start : List ℕ) (items : List A) (cur new : List ℕ)
    → (result : Result (Vec A Global) Refusal) (e : Refusal) → number_from most bytes ≡ Some (n, start) → i < n → (e ≡ Phase 2) × (each cur ≡ None)
    → IsErrAnd result (λ x. x ≡ e) → ReadsOn each n i start items cur → Collects (counted_from most each) bytes result new
ReadsOn-refuses each most n i bytes start items cur new (Ok v) e count lt refused same g = absurd same
ReadsOn-refuses each most n i bytes start items cur new (Err x) e count lt refused same g =
    subst (λ z. Collects (counted_from most each) bytes (Err z) new) (sym (same ∙ refused.0))
    (refl, ReadsOn-stops each most n i bytes start items cur count lt refused.1 g)
