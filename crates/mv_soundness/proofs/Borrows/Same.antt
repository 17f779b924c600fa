-- A write through a reference changes no reference of any frame.
use Rattle.mv_soundness.proofs.Borrows.Common.{refl, sym, ◌≡◌, ℕ, List, [], ◌∷◌, true, false, inl, inr, ap, subst, zero, suc, map, Option, Some, None, Bool, cond, ◌∙◌, arith, eqb-true}
use Rattle.mv_soundness.proofs.Borrows.Common.{eqb_tells, same_Some, option_and_then_some, ◌==◌, ⊤, slice_get, slice_set, option_and_then, Tag, reference_of, Frame, State, place_value}
use Rattle.mv_soundness.proofs.Borrows.Common.{frames, has_tag, Stored, Reference, Value, Local, Leaf, Struct, Ref, Root, Place, Edge, Descending, AllUnder, local_of, layer_of}
use Rattle.mv_module_text.proofs.Rows.{on_map}
use Rattle.mv_soundness.proofs.{Lists.flat-some, Borrows.Operands.IsPlainTag, Borrows.Operands.not-plain, Borrows.Operands.followed}
use Rattle.mv_machine.specs.Value.{value_at, with_value_at, field_of, with_field_of}
use Rattle.mv_machine.specs.State.{local_in, root_value, with_local, with_root, with_place}
use Rattle.mv_machine.specs.Typing.{tag_of}

-- a frame with the same references, where the first one has them
pub record SameSeen (f g : Frame) : Type 0 where
  pub number : g.number ≡ f.number
  pub function : g.function ≡ f.function
  pub entered_with : g.entered_with ≡ f.entered_with
  pub at : g.at ≡ f.at
  pub stack : g.stack ≡ f.stack
  pub locals : map local_of g.locals ≡ map local_of f.locals

abbrev pub SameFrames : List Frame → List Frame → Type 0
SameFrames [] [] = ⊤
SameFrames [] (g ∷ gs) = ⊥
SameFrames (f ∷ fs) [] = ⊥
SameFrames (f ∷ fs) (g ∷ gs) = SameSeen f g × SameFrames fs gs

pub same-self : (f : Frame) → SameSeen f f
same-self f = record { number = refl; function = refl; entered_with = refl; at = refl; stack = refl; locals = refl }

pub same-all : (fs : List Frame) → SameFrames fs fs
same-all [] = tt
same-all (f ∷ fs) = (same-self f, same-all fs)

pub layer-same : (acquires : List ℕ) (lent : List (Option Reference)) (f g : Frame) (es : List Edge) → SameSeen f g
    → layer_of acquires (record { frame = f; lent = lent }) es ≡ layer_of acquires (record { frame = g; lent = lent }) es
layer-same acquires lent f g es s = rw (s.number, s.function, s.entered_with, s.stack, s.locals) refl

same-cond : (b : Bool) (f g : Frame) → (b ≡ true → SameSeen f g) → SameSeen f (cond b g f)
same-cond true f g h = h refl
same-cond false f g h = same-self f

others-same : (fs : List Frame) (n l : ℕ) (w : Value) → AllUnder n fs → SameFrames fs (map (with_local n l w) fs)
others-same [] n l w h = tt
others-same (f ∷ fs) n l w h =
    (same-cond (f.number == n) f (record f { locals = slice_set f.locals l (Some w) }) (λ e. let same : f.number ≡ n = eqb-true f.number n e in absurd (omega (arith, h.0))), others-same fs n l w h.1)

-- a local's value that is no reference, and another one in its place
set-same : (xs : List (Option Value)) (l : ℕ) (w new : Value) → slice_get xs l ≡ Some (Some w) → reference_of w ≡ None → reference_of new ≡ None
    → map local_of (slice_set xs l (Some new)) ≡ map local_of xs
set-same [] l w new at a b = refl
set-same (x ∷ xs) zero w new at a b = rw (same_Some x (Some w) at, a, b) refl
set-same (x ∷ xs) (suc l) w new at a b = ap (λ t. local_of x ∷ t) (set-same xs l w new at a b)

local-same : (fs : List Frame) (n l : ℕ) (w new : Value) → Descending fs → local_in fs n l ≡ Some w → reference_of w ≡ None → reference_of new ≡ None
    → SameFrames fs (map (with_local n l new) fs)
local-same [] n l w new d at a b = tt
local-same (f ∷ fs) n l w new d at a b =
    elim (eqb_tells f.number n) [
      | inl t ↦
          rw t.0 (
            record {
              number = refl;
              function = refl;
              entered_with = refl;
              at = refl;
              stack = refl;
              locals = set-same f.locals l w new (flat-some (slice_get f.locals l) w (rw t.0 at at)) a b;
            },
            others-same fs n l new (subst (λ m. AllUnder m fs) t.1 d.0),
          )
      | inr t ↦ rw t.0 (same-self f, local-same fs n l w new d.1 (rw t.0 at at) a b)
    ]

-- what holds a place that is no reference is none itself, before and after a write of none
root-none : (w old : Value) (path : List ℕ) → value_at w path ≡ Some old → reference_of old ≡ None → reference_of w ≡ None
root-none w old [] h k = ap reference_of (same_Some w old h) ∙ k
root-none (Ref r) old (i ∷ path) h k = absurd cc
root-none w old (i ∷ path) h k = refl

field-none : (v new : Value) (i : ℕ) → reference_of v ≡ None → reference_of (with_field_of v i new) ≡ None
field-none (Ref r) new i h = h
field-none v new i h = refl

written-none : (w v new : Value) (path : List ℕ) → with_value_at w path v ≡ Some new → reference_of w ≡ None → reference_of v ≡ None → reference_of new ≡ None
written-none w v new [] h a b = ap reference_of (sym (same_Some v new h)) ∙ b
written-none w v new (i ∷ path) h a b =
    on_map (option_and_then (λ u. with_value_at u path v) (field_of w i)) (with_field_of w i) new h (λ u u_is same. ap reference_of (sym same) ∙ field-none w u i a)

-- the frames of a state after a write at a root
abbrev WrittenAs : State → State → Type 0
WrittenAs s t = SameSeen s.top t.top × SameFrames s.below t.below × (t.entered ≡ s.entered)

at-root : (s : State) (root : Root) (w new : Value) → Descending (frames s) → root_value s root ≡ Some w → reference_of w ≡ None → reference_of new ≡ None → WrittenAs s (with_root s root new)
at-root s (Local n l) w new d at a b = let x = local-same (frames s) n l w new d at a b in (x.0, x.1, refl)
at-root s (Stored key) w new d at a b = (same-self s.top, same-all s.below, refl)

pub write-same : (s : State) (q : Place) (old v : Value) (t : State) → Descending (frames s) → place_value s q ≡ Some old → reference_of old ≡ None → reference_of v ≡ None
    → with_place s q v ≡ Some t → SameSeen s.top t.top × SameFrames s.below t.below × (t.entered ≡ s.entered)
write-same s q old v t d at a b e =
    option_and_then_some (λ w. value_at w q.path) (root_value s q.root) old at (λ w is h.
    on_map (with_value_at w q.path v) (with_root s q.root) t (rw is at e) (λ new new_is same.
    subst (WrittenAs s) same (at-root s q.root w new d is (root-none w old q.path h a) (written-none w v new q.path new_is (root-none w old q.path h a) b))))

-- what has the tag of a value that is no reference is none
pub plain-tagged : (s : State) (old v : Value) (tag : Tag) → reference_of old ≡ None → tag_of s old ≡ Some tag → has_tag s v tag ≡ true → reference_of v ≡ None
plain-tagged s (Leaf kind n) (Ref r) tag a h k = let x = followed _ r.is_mutable tag k in absurd (not-plain r.is_mutable x.0 tag (subst IsPlainTag (same_Some _ tag h) tt) x.1)
plain-tagged s (Struct name fs) (Ref r) tag a h k = let x = followed _ r.is_mutable tag k in absurd (not-plain r.is_mutable x.0 tag (subst IsPlainTag (same_Some _ tag h) tt) x.1)
plain-tagged s (Ref q) (Ref r) tag a h k = absurd cc
plain-tagged s old v tag a h k = refl
