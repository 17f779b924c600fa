-- Availabilities that lie in a state itself.
use Rattle.std.proofs.Common.{◌≡◌, ℕ, ◌+◌, ◌<◌, List, [], ◌∷◌, ◌++◌, length, take, replicate, ap, ◌∙◌, arith, append_assoc}
use Rattle.std.specs.Prelude.{slice_set}
use Rattle.std.proofs.lemmas.List.{length-take, replicate-append-replicate}
use Rattle.std.proofs.Math.Seq.{take-set-lt}
use Rattle.mv_move_types.specs.declared.borrow.Availability.{Availability}

-- a write among the first ones
pub set_taken : (xs : List Availability) (n i : ℕ) (a : Availability) → i < length (take n xs) → take n (slice_set xs i a) ≡ slice_set (take n xs) i a
set_taken xs n i a h = take-set-lt n xs i a (omega (arith, h, length-take n xs))

-- the same once more
pub once_more : (xs ys zs : List Availability) (k : ℕ) (a : Availability) → ys ≡ xs ++ replicate k a → zs ≡ ys ++ a ∷ [] → zs ≡ xs ++ replicate (k + 1) a
once_more xs ys zs k a e f =
    f ∙ ap (λ l. l ++ a ∷ []) e ∙ append_assoc xs (replicate k a) (a ∷ []) ∙ ap (λ l. xs ++ l) (replicate-append-replicate k 1 a)
