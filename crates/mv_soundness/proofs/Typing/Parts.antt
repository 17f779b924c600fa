-- The parts of a rule, one after the other: each gives a value of which something holds, or fails harmlessly.
use Rattle.mv_soundness.proofs.Typing.Common.{◌≡◌, true, refl, subst, Result, Ok, Bool, false, sym, Err, not, ◌>>◌, need, State, untouched, Faults, LostFault, FrozenFault, Failure}
use Rattle.mv_soundness.proofs.Typing.Common.{Place}
use Rattle.mv_move_types.specs.Results.{◌>>=◌}
use Rattle.mv_soundness.specs.Typing.StateTyped.{Harmless}
use Rattle.mv_machine.specs.Live.{live, is_frozen_by}

-- a part gives a value of which P holds, or fails harmlessly
abbrev pub Part : {A : Type 0} → (A → Type 0) → Result A Failure → Type 0
Part P (Ok x) = P x
Part P (Err e) = Harmless e

module _ {A B : Type 0} (P : B → Type 0) where
  -- this part gives this value
  pub known : (r : Result A Failure) (f : A → Result B Failure) (x : A) → r ≡ Ok x → Part P (f x) → Part P (r >>= f)
  known r f x e go = subst (λ s. Part P (s >>= f)) (sym e) go

  -- this part gives some value or fails harmlessly
  pub some : (Q : A → Type 0) (r : Result A Failure) (f : A → Result B Failure) → Part Q r → ((x : A) → Q x → Part P (f x)) → Part P (r >>= f)
  some Q (Ok x) f h go = go x h
  some Q (Err e) f h go = h

module _ {B : Type 0} (P : B → Type 0) where
  -- a test that passes
  pub passes : (b : Bool) (e : Failure) (r : Result B Failure) → b ≡ true → Part P r → Part P (need b e >> r)
  passes b e r h go = subst (λ c. Part P (need c e >> r)) (sym h) go

  -- a test that passes, or a harmless failure
  pub tried : (b : Bool) (e : Failure) (r : Result B Failure) → Harmless e → (b ≡ true → Part P r) → Part P (need b e >> r)
  tried true e r h go = go refl
  tried false e r h go = h

  -- a part that only tests, and fails harmlessly or not at all
  pub tested : (u : Result (Unit {0}) Failure) (r : Result B Failure) → Part (λ x. Unit {0}) u → Part P r → Part P (u >> r)
  tested (Ok x) r h go = go
  tested (Err e) r h go = h

-- a test whose failure is harmless
pub needed : (b : Bool) (e : Failure) → Harmless e → Part (λ x. Unit {0}) (need b e)
needed true e h = tt
needed false e h = h

-- what may be lost is no matter of types
pub lost : (b : Bool) → Part (λ x. Unit {0}) (need b (Faults LostFault))
lost b = needed b (Faults LostFault) tt

-- nor is what is frozen
pub frozen : (s : State) (p : Place) → Part (λ x. Unit {0}) (untouched s p)
frozen s p = needed (not (is_frozen_by (live s) p)) (Faults FrozenFault) tt
