-- Reading one entry after another, as a loop does.
use Rattle.mv_binary_format.proofs.Common.{[], ℕ, ◌++◌, ◌+◌, ◌-◌, ◌<◌, ◌∙◌, ◌∷◌, ◌≡◌, List, None, Option, Some, ap, append_assoc, arith, refl, suc, sym, ◌>>=◌}
use Rattle.mv_binary_format.proofs.Common.{Read, all_from}

-- what was read before, and what is still read
abbrev pub with_front : {A : Type 0} → List A → Read (List A) → Read (List A)
with_front front None = None
with_front front (Some x) = Some (front ++ x.0, x.1)

-- the same of all that is left
abbrev pub with_before : {A : Type 0} → List A → Option (List A) → Option (List A)
with_before front None = None
with_before front (Some xs) = Some (front ++ xs)

pub regroup : {A : Type 0} (front : List A) (x : A) (read : Read (List A)) → with_front front (read >>= λ xs. Some (x ∷ xs.0, xs.1)) ≡ with_front (front ++ x ∷ []) read
regroup front x None = refl
regroup {A} front x (Some xs) = ap (λ (ys : List A). Some (ys, xs.1)) (simp append_assoc)

regroup_all : {A : Type 0} (front : List A) (x : A) (read : Option (List A)) → with_before front (read >>= λ xs. Some (x ∷ xs)) ≡ with_before (front ++ x ∷ []) read
regroup_all front x None = refl
regroup_all front x (Some xs) = ap Some (simp append_assoc)

-- what was read of all entries in the first i of n turns
pub record AllReads {A : Type 0} (each : List ℕ → Read A) (n i : ℕ) (start : List ℕ) (items : List A) (cur : List ℕ) : Type 0 where
  pub goes : with_before items (all_from each (n - i) cur) ≡ all_from each n start

-- one more is read
pub AllReads-next : {A : Type 0} (each : List ℕ → Read A) (n i : ℕ) (start : List ℕ) (items : List A) (cur : List ℕ) (x : A) (next : List ℕ)
    → i < n → (cur ≡ [] → ⊥) → each cur ≡ Some (x, next) → AllReads each n i start items cur → AllReads each n (i + 1) start (items ++ x ∷ []) next
AllReads-next each n i start items [] x next lt some e g = absurd (some refl)
AllReads-next each n i start items (b ∷ bytes) x next lt some e g =
    let k : n - i ≡ suc (n - (i + 1)) = omega arith in
    let one : with_before items (all_from each (n - i) (b ∷ bytes)) ≡ with_before (items ++ x ∷ []) (all_from each (n - (i + 1)) next) = rw (k, e) (regroup_all items x (all_from each (n - (i + 1)) next)) in
    record { goes = sym one ∙ g.goes }

-- the next can't be read
pub AllReads-stops : {A : Type 0} (each : List ℕ → Read A) (n i : ℕ) (start : List ℕ) (items : List A) (cur : List ℕ) → i < n → (cur ≡ [] → ⊥)
    → each cur ≡ None → AllReads each n i start items cur → all_from each n start ≡ None
AllReads-stops each n i start items [] lt some e g = absurd (some refl)
AllReads-stops each n i start items (b ∷ bytes) lt some e g =
    let k : n - i ≡ suc (n - (i + 1)) = omega arith in
    let one : with_before items (all_from each (n - i) (b ∷ bytes)) ≡ None = rw (k, e) refl in
    sym g.goes ∙ one
