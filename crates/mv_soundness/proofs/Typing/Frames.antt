-- A write to a local of some frame: what the locals of all frames hold then.
use Rattle.mv_soundness.proofs.Typing.Common.{◌≡◌, ℕ, zero, suc, ◌<◌, ◌≤◌, true, List, [], ◌∷◌, refl, ap, subst, ◌∙◌, arith, Option, Some, Bool, false, sym, ap₂, cond, map, eqb}
use Rattle.mv_soundness.proofs.Typing.Common.{eqb-true, ne_eqb, eqb-false, same_Some, slice_get, slice_set, Module, Tag, ReferenceTag, Token, Frame, local_in, local_value, with_local}
use Rattle.mv_soundness.proofs.Typing.Common.{Value, Leaf, Struct, Ref, Reference, slice_get-set_other, Roots, IsOf, Table, HasType, HasToken, LocalsHaveTokens, Numbered, AreWaiting}
use Rattle.mv_soundness.proofs.Typing.Common.{LocalHasToken}
use Rattle.mv_storage.proofs.PlaceLemmas.{slice_get-set_same}
use Rattle.mv_soundness.proofs.{Lists.flat-some, Typing.Within.one_type, Typing.Roots.is_plain, Typing.Keep.waits_with}
use Rattle.mv_soundness.specs.Typing.HasType.{fields_by_name}

-- frames with smaller numbers don't change
pub written_below : (n l : ℕ) (v : Value) (k : ℕ) (fs : List Frame) → Numbered k fs → k ≤ n → map (with_local n l v) fs ≡ fs
written_below n l v k [] h e = refl
written_below n l v k (f ∷ fs) h e =
    let lower : f.number < n = omega (arith, h.0, e) in
    let far : eqb f.number n ≡ false = ne_eqb f.number n (λ p. absurd (omega (arith, p, lower))) in
    let same : with_local n l v f ≡ f = rw far refl in
    ap₂ (λ (x : Frame) (xs : List Frame). x ∷ xs) same (written_below n l v f.number fs h.1 (omega (arith, lower)))

-- nor does a frame of another number
pub written_other : (n l : ℕ) (v : Value) (f : Frame) → eqb f.number n ≡ false → with_local n l v f ≡ f
written_other n l v f far = rw far refl

pub written_frame : (n l : ℕ) (v : Value) (f : Frame) → eqb f.number n ≡ true → with_local n l v f ≡ record f { locals = slice_set f.locals l (Some v) }
written_frame n l v f near = rw near refl

pub pick_first : {A : Type 0} (b : Bool) (x y z : A) → b ≡ true → x ≡ z → cond b x y ≡ z
pick_first true x y z e p = p
pick_first false x y z e p = absurd cc

pub pick_second : {A : Type 0} (b : Bool) (x y z : A) → b ≡ false → y ≡ z → cond b x y ≡ z
pick_second false x y z e p = p
pick_second true x y z e p = absurd cc

-- what a local holds, as an entry
pub held_entry : (f : Frame) (l : ℕ) (v : Value) → local_value f l ≡ Some v → slice_get f.locals l ≡ Some (Some v)
held_entry f l v e = flat-some (slice_get f.locals l) v e

module _ (table : Table) (n l : ℕ) (old new : Value) (base : Tag) (old_typed : IsOf table old base) (new_typed : IsOf table new base) where
  -- in the frame itself
  written_here : (f : Frame) (k : ℕ) (v : Value) (t : Tag) → local_value f l ≡ Some old → local_value f k ≡ Some v → IsOf table v t →
      (w : Value) × (local_value (record f { locals = slice_set f.locals l (Some new) }) k ≡ Some w) × IsOf table w t
  written_here f k v t there e typed = by_case (eqb l k) refl
    where
      by_case : (b : Bool) → eqb l k ≡ b → (w : Value) × (local_value (record f { locals = slice_set f.locals l (Some new) }) k ≡ Some w) × IsOf table w t
      by_case false far = (v, rw (slice_get-set_other f.locals l k (Some new) (eqb-false l k far)) e, typed)
      by_case true near =
          let same : l ≡ k = eqb-true l k near in
          let at_l : local_value f l ≡ Some v = subst (λ (x : ℕ). local_value f x ≡ Some v) (sym same) e in
          let value : v ≡ old = same_Some v old (sym at_l ∙ there) in
          let tag : base ≡ t = one_type table old base t old_typed (subst (λ (x : Value). IsOf table x t) value typed) in
          let set_at : slice_get (slice_set f.locals l (Some new)) k ≡ Some (Some new) =
          subst (λ (x : ℕ). slice_get (slice_set f.locals l (Some new)) x ≡ Some (Some new)) same (slice_get-set_same f.locals l (Some old) (Some new) (held_entry f l old there)) in
          (new, rw set_at refl, subst (λ (x : Tag). IsOf table new x) tag new_typed)

  -- in all frames
  pub written_in : (bound : ℕ) (fs : List Frame) (m k : ℕ) (v : Value) (t : Tag) → Numbered bound fs → local_in fs n l ≡ Some old → local_in fs m k ≡ Some v → IsOf table v t →
      (w : Value) × (local_in (map (with_local n l new) fs) m k ≡ Some w) × IsOf table w t
  written_in bound [] m k v t h there e typed = absurd cc
  written_in bound (f ∷ fs) m k v t h there e typed = by_case (λ there e. written_in f.number fs m k v t h.1 there e typed) (eqb f.number n) (eqb f.number m) refl refl
    where
      by_case : (local_in fs n l ≡ Some old → local_in fs m k ≡ Some v → (w : Value) × (local_in (map (with_local n l new) fs) m k ≡ Some w) × IsOf table w t) →
          (a b : Bool) → eqb f.number n ≡ a → eqb f.number m ≡ b → (w : Value) × (local_in (map (with_local n l new) (f ∷ fs)) m k ≡ Some w) × IsOf table w t
      by_case ih true true p q =
          let there_here : local_value f l ≡ Some old = subst (λ (x : Bool). cond x (local_value f l) (local_in fs n l) ≡ Some old) p there in
          let found_here : local_value f k ≡ Some v = subst (λ (x : Bool). cond x (local_value f k) (local_in fs m k) ≡ Some v) q e in
          let after = written_here f k v t there_here found_here typed in
          (after.0, subst (λ (x : Frame). local_in (x ∷ map (with_local n l new) fs) m k ≡ Some after.0) (sym (written_frame n l new f p)) (pick_first (eqb f.number m) _ _ (Some after.0) q after.1), after.2)
      by_case ih true false p q =
          let frame : f.number ≡ n = eqb-true f.number n p in
          let rest : map (with_local n l new) fs ≡ fs = written_below n l new f.number fs h.1 (omega (arith, frame)) in
          let found : local_in fs m k ≡ Some v = subst (λ (x : Bool). cond x (local_value f k) (local_in fs m k) ≡ Some v) q e in
          (v, subst (λ (x : Frame). local_in (x ∷ map (with_local n l new) fs) m k ≡ Some v) (sym (written_frame n l new f p)) (pick_second (eqb f.number m) _ _ (Some v) q (ap (λ (fs : List Frame). local_in fs m k) rest ∙ found)), typed)
      by_case ih false true p q =
          let found : local_value f k ≡ Some v = subst (λ (x : Bool). cond x (local_value f k) (local_in fs m k) ≡ Some v) q e in
          (v, subst (λ (x : Frame). local_in (x ∷ map (with_local n l new) fs) m k ≡ Some v) (sym (written_other n l new f p)) (pick_first (eqb f.number m) _ _ (Some v) q found), typed)
      by_case ih false false p q =
          let there_below : local_in fs n l ≡ Some old = subst (λ (x : Bool). cond x (local_value f l) (local_in fs n l) ≡ Some old) p there in
          let found_below : local_in fs m k ≡ Some v = subst (λ (x : Bool). cond x (local_value f k) (local_in fs m k) ≡ Some v) q e in
          let after = ih there_below found_below in
          (after.0, subst (λ (x : Frame). local_in (x ∷ map (with_local n l new) fs) m k ≡ Some after.0) (sym (written_other n l new f p)) (pick_second (eqb f.number m) _ _ (Some after.0) q after.1), after.2)

module _ (modules : List Module) (n l : ℕ) (old new : Value) (base : Tag) (old_typed : IsOf (fields_by_name modules) old base) (new_typed : IsOf (fields_by_name modules) new base) (look : Roots) where
  -- a type of what is no reference is its type
  plain_typed : (v : Value) (t : Tag) → IsOf (fields_by_name modules) v base → HasType (fields_by_name modules) look v t → IsOf (fields_by_name modules) v t
  plain_typed (Leaf k m) (ReferenceTag b t) e h = absurd h
  plain_typed (Struct name fields) (ReferenceTag b t) e h = absurd h
  plain_typed (Ref r) (ReferenceTag b t) e h = absurd e
  plain_typed v t e h = h

  pub replaced_typed : (home : Module) (t : Token) → HasToken modules look home old t → HasToken modules look home new t
  replaced_typed home t h =
      let same : base ≡ h.tag = one_type (fields_by_name modules) old base h.tag old_typed (plain_typed old h.tag old_typed h.typed) in
      record { tag = h.tag; names = h.names; typed = is_plain (fields_by_name modules) look new h.tag (subst (λ (x : Tag). IsOf (fields_by_name modules) new x) same new_typed) }

  -- the locals of a frame after the write
  locals_written : (home : Module) (vs : List (Option Value)) (ts : List Token) (k : ℕ) → slice_get vs k ≡ Some (Some old)
      → LocalsHaveTokens modules look home vs ts → LocalsHaveTokens modules look home (slice_set vs k (Some new)) ts
  locals_written home (v ∷ vs) (t ∷ ts) zero e h = (replaced_typed home t (subst (λ (x : Option Value). LocalHasToken modules look home x t) (same_Some v (Some old) e) h.0), h.1)
  locals_written home (v ∷ vs) (t ∷ ts) (suc k) e h = (h.0, locals_written home vs ts k e h.1)
  locals_written home vs ts k e h = absurd (grind arith)

  -- a frame after the write is the frame with such locals
  pub record Written (f : Frame) (home : Module) (ts : List Token) : Type 0 where
    pub locals : List (Option Value)
    pub is_frame : with_local n l new f ≡ record f { locals = locals }
    pub typed : LocalsHaveTokens modules look home locals ts

  pub frame_written : (f : Frame) (fs : List Frame) (home : Module) (ts : List Token) → local_in (f ∷ fs) n l ≡ Some old → LocalsHaveTokens modules look home f.locals ts → Written f home ts
  frame_written f fs home ts there h = by_case (eqb f.number n) refl
    where
      by_case : (a : Bool) → eqb f.number n ≡ a → Written f home ts
      by_case true p =
          let here : local_value f l ≡ Some old = subst (λ (x : Bool). cond x (local_value f l) (local_in fs n l) ≡ Some old) p there in
          record { locals = slice_set f.locals l (Some new); is_frame = written_frame n l new f p; typed = locals_written home f.locals ts l (held_entry f l old here) h }
      by_case false p = record { locals = f.locals; is_frame = written_other n l new f p; typed = h }

  -- waiting frames after the write, which finds its local there or above
  pub below_written : (bound : ℕ) (lent : List (Option Reference)) (given : List Tag) (fs : List Frame) → Numbered bound fs
      → local_in fs n l ≡ Some old → AreWaiting modules look lent given fs → AreWaiting modules look lent given (map (with_local n l new) fs)
  below_written bound lent given [] h there w = tt
  below_written bound lent given (f ∷ fs) h there w = by_case (λ there. below_written f.number f.entered_with w.0.own_results fs h.1 there w.1) (eqb f.number n) refl
    where
      by_case : (local_in fs n l ≡ Some old → AreWaiting modules look f.entered_with w.0.own_results (map (with_local n l new) fs)) → (a : Bool)
          → eqb f.number n ≡ a → AreWaiting modules look lent given (map (with_local n l new) (f ∷ fs))
      by_case ih true p =
          let here : local_value f l ≡ Some old = subst (λ (x : Bool). cond x (local_value f l) (local_in fs n l) ≡ Some old) p there in
          let frame : f.number ≡ n = eqb-true f.number n p in
          let rest : map (with_local n l new) fs ≡ fs = written_below n l new f.number fs h.1 (omega (arith, frame)) in
          let locals = locals_written w.0.home f.locals w.0.tokens l (held_entry f l old here) w.0.locals in
          subst (λ (x : Frame). AreWaiting modules look lent given (x ∷ map (with_local n l new) fs)) (sym (written_frame n l new f p))
          (waits_with modules look look lent given f w.0 (slice_set f.locals l (Some new)) locals w.0.stack w.0.arguments, subst (λ (xs : List Frame). AreWaiting modules look f.entered_with w.0.own_results xs) (sym rest) w.1)
      by_case ih false p =
          let below : local_in fs n l ≡ Some old = subst (λ (x : Bool). cond x (local_value f l) (local_in fs n l) ≡ Some old) p there in
          subst (λ (x : Frame). AreWaiting modules look lent given (x ∷ map (with_local n l new) fs)) (sym (written_other n l new f p)) (w.0, ih below)
