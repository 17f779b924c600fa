-- What stays typed when something changes at the roots.
use Rattle.mv_soundness.proofs.Typing.Common.{List, [], ◌∷◌, Option, Some, None, Module, Tag, ReferenceTag, Token, references, local_references, Frame, State, Value, Leaf, Struct, Ref}
use Rattle.mv_soundness.proofs.Typing.Common.{Root, Reference, Roots, Rooted, HasType, PointsTo, LentHaveTypes, HasToken, HaveTokens, LocalsHaveTokens, AreWaiting, IsWaiting, Avoid}
use Rattle.mv_soundness.proofs.Typing.Common.{Unreached, BelowAvoid}
use Rattle.std.specs.Prelude.{filter_map}
use Rattle.mv_soundness.specs.{Typing.HasType.fields_by_name, Typing.Unreached.FrameAvoids}

-- nothing is gone
abbrev pub Nothing : Root → Type 0
Nothing root = ⊥

pub avoid_nothing : (rs : List Reference) → Avoid Nothing rs
avoid_nothing [] = tt
avoid_nothing (r ∷ rs) = ((λ h. h), avoid_nothing rs)

pub below_avoids_nothing : (lent : List (Option Reference)) (fs : List Frame) → BelowAvoid Nothing lent fs
below_avoids_nothing lent [] = tt
below_avoids_nothing lent (f ∷ fs) = (avoid_nothing (filter_map (λ r. r) lent), (avoid_nothing (local_references f.locals), avoid_nothing (references f.stack)), below_avoids_nothing f.entered_with fs)

pub none_to_nothing : (s : State) → Unreached Nothing s
none_to_nothing s = ((avoid_nothing (local_references s.top.locals), avoid_nothing (references s.top.stack)), below_avoids_nothing s.top.entered_with s.below)

-- a value that is a reference leads elsewhere
abbrev pub ValueAvoids : (Root → Type 0) → Value → Type 0
ValueAvoids gone (Leaf k n) = Unit {0}
ValueAvoids gone (Struct name fields) = Unit {0}
ValueAvoids gone (Ref r) = gone r.place.root → ⊥

pub first_avoids : (gone : Root → Type 0) (v : Value) (vs : List Value) → Avoid gone (references (v ∷ vs)) → ValueAvoids gone v × Avoid gone (references vs)
first_avoids gone (Ref r) vs h = (h.0, h.1)
first_avoids gone v vs h = (tt, h)

-- a waiting frame with other locals, where its values have their types at other roots
abbrev pub waits_with : (modules : List Module) (look look' : Roots) (lent : List (Option Reference)) (given : List Tag)
    (f : Frame) (w : IsWaiting modules look lent given f) (locals : List (Option Value))
    → LocalsHaveTokens modules look' w.home locals w.tokens → HaveTokens modules look' w.home f.stack w.under
    → LentHaveTypes (fields_by_name modules) look' lent w.parameter_tags → IsWaiting modules look' lent given (record f { locals = locals })
waits_with modules look look' lent given f w locals held stack arguments = record {
  home = w.home;
  function = w.function;
  tokens = w.tokens;
  handle = w.handle;
  parameters = w.parameters;
  results = w.results;
  under = w.under;
  parameter_tags = w.parameter_tags;
  own_results = w.own_results;
  is_home = w.is_home;
  is_function = w.is_function;
  are_tokens = w.are_tokens;
  are_own_results = w.are_own_results;
  is_call = w.is_call;
  called = w.called;
  is_called = w.is_called;
  called_parameters = w.called_parameters;
  called_results = w.called_results;
  before = w.before;
  after = w.after;
  are_parameters = w.are_parameters;
  are_results = w.are_results;
  locals = held;
  stack = stack;
  arguments = arguments;
}

module _ (modules : List Module) (look look' : Roots) (gone : Root → Type 0) where
  -- what isn't gone is there as before, with its type
  abbrev pub Kept : Type 0
  Kept = (root : Root) (t : Tag) → (gone root → ⊥) → Rooted (fields_by_name modules) look root t → Rooted (fields_by_name modules) look' root t

module _ (modules : List Module) (look look' : Roots) (gone : Root → Type 0) (kept : Kept modules look look' gone) where
  pub keep_reference : (r : Reference) (t : Tag) → (gone r.place.root → ⊥) → PointsTo (fields_by_name modules) look r t → PointsTo (fields_by_name modules) look' r t
  keep_reference r t a h = record { base = h.base; root = kept r.place.root h.base a h.root; leads = h.leads }

  pub keep_value : (v : Value) (t : Tag) → ValueAvoids gone v → HasType (fields_by_name modules) look v t → HasType (fields_by_name modules) look' v t
  keep_value (Ref r) (ReferenceTag m t) a h = (h.0, keep_reference r t a h.1)
  keep_value v t a h = h

  module _ (home : Module) where
    pub keep_token : (v : Value) (t : Token) → ValueAvoids gone v → HasToken modules look home v t → HasToken modules look' home v t
    keep_token v t a h = record { tag = h.tag; names = h.names; typed = keep_value v h.tag a h.typed }

    pub keep_stack : (vs : List Value) (ts : List Token) → Avoid gone (references vs) → HaveTokens modules look home vs ts → HaveTokens modules look' home vs ts
    keep_stack (v ∷ vs) (t ∷ ts) a h =
        let both = first_avoids gone v vs a in
        (keep_token v t both.0 h.0, keep_stack vs ts both.1 h.1)
    keep_stack vs ts a h = h

    first_local_avoids : (v : Value) (vs : List (Option Value)) → Avoid gone (local_references (Some v ∷ vs)) → ValueAvoids gone v × Avoid gone (local_references vs)
    first_local_avoids (Ref r) vs h = (h.0, h.1)
    first_local_avoids v vs h = (tt, h)

    pub keep_locals : (vs : List (Option Value)) (ts : List Token) → Avoid gone (local_references vs) → LocalsHaveTokens modules look home vs ts → LocalsHaveTokens modules look' home vs ts
    keep_locals (None ∷ vs) (t ∷ ts) a h = (tt, keep_locals vs ts a h.1)
    keep_locals (Some v ∷ vs) (t ∷ ts) a h =
        let both = first_local_avoids v vs a in
        (keep_token v t both.0 h.0, keep_locals vs ts both.1 h.1)
    keep_locals vs ts a h = h

  pub keep_lent : (rs : List (Option Reference)) (ts : List Tag) → Avoid gone (filter_map (λ r. r) rs)
      → LentHaveTypes (fields_by_name modules) look rs ts → LentHaveTypes (fields_by_name modules) look' rs ts
  keep_lent (None ∷ rs) (t ∷ ts) a h = (h.0, keep_lent rs ts a h.1)
  keep_lent (Some r ∷ rs) (t ∷ ts) a h = (keep_value (Ref r) t a.0 h.0, keep_lent rs ts a.1 h.1)
  keep_lent rs ts a h = h

  pub keep_waiting : (lent : List (Option Reference)) (given : List Tag) (f : Frame) → Avoid gone (filter_map (λ r. r) lent) → FrameAvoids gone f
      → IsWaiting modules look lent given f → IsWaiting modules look' lent given f
  keep_waiting lent given f a b w =
      waits_with modules look look' lent given f w f.locals (keep_locals w.home f.locals w.tokens b.0 w.locals)
      (keep_stack w.home f.stack w.under b.1 w.stack) (keep_lent lent w.parameter_tags a w.arguments)

  pub keep_below : (lent : List (Option Reference)) (given : List Tag) (fs : List Frame) → BelowAvoid gone lent fs → AreWaiting modules look lent given fs → AreWaiting modules look' lent given fs
  unfolding keep_waiting
  keep_below lent given [] a h = h
  keep_below lent given (f ∷ fs) a h = (keep_waiting lent given f a.0 a.1 h.0, keep_below f.entered_with h.0.own_results fs a.2 h.1)
