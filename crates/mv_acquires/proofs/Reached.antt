-- A test of each element of a list, from its answer at each place.
use Rattle.std.proofs.Common.{◌≡◌, ℕ, zero, suc, ◌<◌, Bool, true, false, List, [], ◌∷◌, length, slice_get, IfSome, refl, sym, arith}
use Rattle.std.specs.List.{list_all}
use Rattle.std.proofs.lemmas.Bool.{and_right}

-- a test that passes at each place passes of all
pub all_at_each : {A : Type 0} (p : A → Bool) (xs : List A) → ((k : ℕ) → k < length xs → IfSome (slice_get xs k) (λ x. p x ≡ true)) → list_all p xs ≡ true
all_at_each p [] h = refl
all_at_each p (x ∷ xs) h = rw (h 0 (omega arith)) (all_at_each p xs (λ k within. h (suc k) (omega arith)))

-- a test that fails at some place fails of all
pub not_all_at : {A : Type 0} (p : A → Bool) (xs : List A) (k : ℕ) (r : Bool) → k < length xs → IfSome (slice_get xs k) (λ x. r ≡ p x) → r ≡ false → list_all p xs ≡ false
not_all_at p [] k r h f e = absurd (omega arith)
not_all_at p (x ∷ xs) zero r h f e = rw (sym f, e) refl
not_all_at p (x ∷ xs) (suc k) r h f e = and_right (p x) (list_all p xs) (not_all_at p xs k r (omega arith) f e)
