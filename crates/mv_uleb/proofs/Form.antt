-- The form of a number, a byte at a time.
use Rattle.std.proofs.Common.{◌≡◌, ℕ, ◌+◌, ◌/◌, ◌%◌, ◌^◌, ◌<◌, ◌≤◌, [], ◌∷◌, arith, refl, ap, suc, zero, lt-ltb, le-ltb, inl, inr}
use Rattle.std.proofs.lemmas.Bool.{cases_lt}
use Rattle.mv_uleb.specs.Uleb.{uleb, uleb_in}

-- one byte
pub uleb-last : (n : ℕ) → n < 128 → uleb n ≡ n ∷ []
unfolding uleb
uleb-last n lt = rw (lt-ltb n 128 lt) refl

-- more room changes nothing where there is enough
uleb_in-more : (k n : ℕ) → n < 128 ^ (suc k) → uleb_in k n ≡ uleb_in (suc k) n
uleb_in-more zero n lt = let small : n < 128 = omega arith in rw (lt-ltb n 128 small) refl
uleb_in-more (suc k) n lt =
    elim (cases_lt n 128) [
      | inl small ↦ rw (lt-ltb n 128 small) refl
      | inr large ↦ rw (le-ltb n 128 large) (ap (λ z. (n % 128 + 128) ∷ z) (uleb_in-more k (n / 128) (omega arith)))
    ]

-- the low seven bits, and the form of the rest
pub uleb-further : (n : ℕ) → 128 ≤ n → n < 2 ^ 64 → uleb n ≡ (n % 128 + 128) ∷ uleb (n / 128)
unfolding uleb
uleb-further n ge lt = rw (le-ltb n 128 ge) (ap (λ z. (n % 128 + 128) ∷ z) (uleb_in-more 8 (n / 128) (omega arith)))
