-- Slots that are read and written at a place of a list, and the place that was found.
use Rattle.mv_storage.proofs.Common.{[], ℕ, ◌<◌, ◌∷◌, ◌≡◌, Bool, List, None, Option, Some, ap, arith, cond, false, is_some, length, refl, slice_get, slice_get_within, slice_index_or, slice_set, subst, sym, true, get, IsSound, Key, key_cmp, Places, Slot}
use Rattle.std.proofs.Common.{suc, vec_len, zero}
use Rattle.std.specs.Prelude.{IfOk, IfSome, OnErr, Result, Ok, Err}
use Rattle.std.specs.declared.alloc.AllocError.{AllocError}
use Rattle.mv_storage.specs.Slots.{IsOwn, IsOwnAt}

pub get-read : (xs : List Slot) (i : ℕ) (s : Slot) → i < length xs → s ≡ slice_index_or xs i s → slice_get xs i ≡ Some s
get-read [] i s l e = absurd (omega (arith, l))
get-read (x ∷ xs) zero s l e = ap Some (sym e)
get-read (x ∷ xs) (suc i) s l e = get-read xs i s (omega (arith, l)) e

pub set-read : (xs : List Slot) (i : ℕ) (s t : Slot) → slice_get xs i ≡ Some s → slice_get (slice_set xs i t) i ≡ Some t
set-read [] i s t e = cc
set-read (x ∷ xs) zero s t e = refl
set-read (x ∷ xs) (suc i) s t e = set-read xs i s t e

pub some-cond : (b : Bool) (p : ℕ) → is_some (cond b (Some p) None) ≡ b
some-cond true p = refl
some-cond false p = refl

pub own-at : (n : Places) (key : Key) (p : ℕ) (t : Slot) (b : Bool) (r : Result (Option ℕ) AllocError) → get key_cmp n.tree key ≡ Some p → slice_get n.slots.items p ≡ Some t
    → IfOk r (λ found. found ≡ cond b (Some p) None) → IfOk r (λ found. is_some found ≡ true → IsOwn t)
    → IfOk r (λ found. IfSome found (IsOwnAt n key))
own-at n key p t b (Err x) at there e own = tt
own-at n key p t b (Ok None) at there e own = tt
own-at n key p t true (Ok (Some q)) at there e own = let same : p ≡ q = cc in subst (IsOwnAt n key) same (at, (t, there, own refl))
own-at n key p t false (Ok (Some q)) at there e own = cc

-- a key's place is in the list
pub place-within : (m : Places) (k : Key) (p : ℕ) → IsSound m → get key_cmp m.tree k ≡ Some p → p < vec_len m.slots
place-within m k p sound at =
    let there = sound.used k p at in
    subst (λ (n : ℕ). p < n) (sym m.slots.ok.0) (slice_get_within m.slots.items p there.0 there.1)

-- what holds in any case holds where there is an error
pub at-err : {T E : Type 0} (r : Result T E) (P : Type 0) → P → OnErr r P
at-err (Ok t) P p = tt
at-err (Err e) P p = p
