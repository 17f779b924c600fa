-- The rows of Call and Ret.
use Rattle.mv_soundness.proofs.Typing.Common.{◌≡◌, ℕ, ◌+◌, ◌<◌, ◌≤◌, true, List, [], ◌∷◌, length, refl, ap, subst, ◌∙◌, arith, ◌++◌, Option, Some, None, Result, Ok, Bool, false, sym}
use Rattle.mv_soundness.proofs.Typing.Common.{cond, map, reverse, Err, eqb, ne_eqb, none-some, list_all, list_any, slice_get, ok_or, not, flat_map, Module, need, for_each, ◌>>=ᵣ◌, Tag}
use Rattle.mv_soundness.proofs.Typing.Common.{LeafTag, StructTag, ReferenceTag, same_tokens, Ret, Call, FunctionHandle, Token, references, local_references, Frame, State, frames}
use Rattle.mv_soundness.proofs.Typing.Common.{root_value, local_in, local_value, Here, operands, may_drop, Callee, Faults, LinkageFault, entry, tag_named, LostFault, FrozenFault}
use Rattle.mv_soundness.proofs.Typing.Common.{have_tags, Value, Leaf, Struct, Ref, Root, Local, Stored, on_bind, tokens_named, lists_equal, Types, TypesAt, Row, CallFacts, Roots}
use Rattle.mv_soundness.proofs.Typing.Common.{HaveTypes, LentHaveTypes, HaveTokens, LocalsHaveTokens, Numbered, AreWaiting, StateTyped, TurnTyped, IsWaiting, Avoid, BelowAvoid}
use Rattle.std.proofs.Common.{replicate}
use Rattle.std.proofs.lemmas.List.{append-nil}
use Rattle.mv_machine.specs.{Live.reference_of, Live.frame_references, StepControl.callee, StepControl.call}
use Rattle.mv_machine.specs.Step.{return_results, signature_tags, leaves, holds_frame, entered_frame}
use Rattle.mv_type_rules.specs.TypeRules.{of_call, of_return}
use Rattle.mv_soundness.specs.{Typing.HasType.fields_by_name, Typing.Unreached.Leaving}
use Rattle.mv_soundness.proofs.Typing.Parts.{Part, known, passes, tested, lost, needed}
use Rattle.mv_soundness.proofs.Typing.Operands.{on_test, takes_gives-is, joined, turned, take_operands}
use Rattle.mv_soundness.proofs.Typing.Keep.{Kept, ValueAvoids, Nothing, avoid_nothing, below_avoids_nothing, keep_value, keep_stack, keep_locals, keep_below}
use Rattle.mv_soundness.proofs.{Typing.Roots.tokens_have_tags, Typing.Roots.typed_have_tags, Typing.Frames.pick_second, Typing.Structs.have_tokens, Typing.Structs.names_length}
use Rattle.mv_soundness.proofs.{Typing.Structs.tags_found}

-- no frame has a number at or above the bound
above_all : (bound : ℕ) (fs : List Frame) (m k : ℕ) → Numbered bound fs → bound ≤ m → local_in fs m k ≡ None
above_all bound [] m k h e = refl
above_all bound (f ∷ fs) m k h e =
    let lower : f.number < m = omega (arith, h.0, e) in
    let far : eqb f.number m ≡ false = ne_eqb f.number m (λ p. absurd (omega (arith, p, lower))) in
    rw far (above_all f.number fs m k h.1 (omega (arith, lower)))

module _ (modules : List Module) (look look' : Roots) (kept : Kept modules look look' Nothing) where
  keep_types : (vs : List Value) (tags : List Tag) → HaveTypes (fields_by_name modules) look vs tags → HaveTypes (fields_by_name modules) look' vs tags
  keep_types (v ∷ vs) (t ∷ ts) h = (keep_value modules look look' Nothing kept v t (avoids v) h.0, keep_types vs ts h.1)
    where
      avoids : (v : Value) → ValueAvoids Nothing v
      avoids (Ref r) = λ p. p
      avoids v = tt
  keep_types vs tags h = h

module _ (modules : List Module) (look : Roots) where
  lent_types : (vs : List Value) (tags : List Tag) → HaveTypes (fields_by_name modules) look vs tags → LentHaveTypes (fields_by_name modules) look (map reference_of vs) tags
  lent_types [] [] h = tt
  lent_types (Leaf k n ∷ vs) (LeafTag j ∷ ts) h = (refl, lent_types vs ts h.1)
  lent_types (Leaf k n ∷ vs) (StructTag u ∷ ts) h = (refl, lent_types vs ts h.1)
  lent_types (Leaf k n ∷ vs) (ReferenceTag m t ∷ ts) h = absurd h.0
  lent_types (Struct name fields ∷ vs) (LeafTag j ∷ ts) h = (refl, lent_types vs ts h.1)
  lent_types (Struct name fields ∷ vs) (StructTag u ∷ ts) h = (refl, lent_types vs ts h.1)
  lent_types (Struct name fields ∷ vs) (ReferenceTag m t ∷ ts) h = absurd h.0
  lent_types (Ref r ∷ vs) (t ∷ ts) h = (h.0, lent_types vs ts h.1)
  lent_types vs tags h = absurd h

  -- the locals of a frame that is entered
  pub entered_locals : (home : Module) (vs : List Value) (ts others : List Token) → HaveTokens modules look home vs ts
      → LocalsHaveTokens modules look home (map Some vs ++ replicate (length others) None) (ts ++ others)
  entered_locals home [] [] [] h = tt
  entered_locals home [] [] (t ∷ others) h = (tt, entered_locals home [] [] others tt)
  entered_locals home (v ∷ vs) (t ∷ ts) others h = (h.0, entered_locals home vs ts others h.1)
  entered_locals home vs ts others h = absurd h

-- the caller as it waits
abbrev waiting_frame : Frame → List Value → Frame
waiting_frame f rest = record f { stack = rest }

-- the state in a called function
abbrev called : State → Callee → List Value → List Value → ℕ → State
called s c arguments rest others = record s {
  top = entered_frame s.entered c.function arguments others;
  below = record (s.top) { stack = rest } ∷ s.below;
  entered = s.entered + 1;
}

module _ (h : Here) (k : ℕ) (types after : Types) (row : Row h (Call k) types after) (next : TypesAt h.home h.function (h.state.top.at + 1) after) where
  kept_called : (c : Callee) (arguments rest : List Value) (others : ℕ) → Kept h.modules (root_value h.state) (root_value (called h.state c arguments rest others)) Nothing
  kept_called c arguments rest others (Stored key) t far r = record { value = r.value; is_there = r.is_there; is_of = r.is_of }
  kept_called c arguments rest others (Local m l) t far r =
      let p = ne_eqb h.state.entered m (λ same. none-some r.value (sym (above_all h.state.entered (frames h.state) m l row.stands.numbered (omega (arith, same))) ∙ r.is_there)) in
      record { value = r.value; is_there = pick_second (eqb h.state.entered m) _ _ (Some r.value) p r.is_there; is_of = r.is_of }

  enters : (handle : FunctionHandle) (parameters results : List Token) → slice_get h.home.function_handles k ≡ Some handle
      → slice_get h.home.signatures handle.parameters ≡ Some parameters → slice_get h.home.signatures handle.results ≡ Some results
      → (f : CallFacts h k handle parameters results) (under : Types) (arguments rest : List Value) → types ≡ reverse parameters ++ under
      → after ≡ reverse results ++ under → HaveTokens h.modules (root_value h.state) h.home arguments parameters
      → HaveTokens h.modules (root_value h.state) h.home rest under
      → StateTyped h.modules (called h.state f.callee_is arguments rest (length f.others))
  enters handle parameters results handle_is parameters_are results_are f under arguments rest before following arguments_typed rest_typed =
      let c : Callee = f.callee_is in
      let look' : Roots = root_value (called h.state c arguments rest (length f.others)) in
      let kept = kept_called c arguments rest (length f.others) in
      let tagged = keep_types h.modules (root_value h.state) look' kept arguments c.parameters
      (tokens_have_tags h.modules (root_value h.state) h.home arguments parameters c.parameters arguments_typed f.parameter_tags) in
      let own_arguments = have_tokens h.modules look' c.home arguments f.own_parameters c.parameters tagged f.own_parameter_tags in
      let waiting : IsWaiting h.modules look' (map reference_of arguments) c.results (waiting_frame h.state.top rest) = record {
        home = h.home;
        function = h.function;
        tokens = row.stands.tokens;
        handle = k;
        parameters = parameters;
        results = results;
        under = under;
        parameter_tags = c.parameters;
        own_results = row.stands.results;
        is_home = row.is_home;
        is_function = row.is_function;
        are_tokens = row.stands.are_tokens;
        are_own_results = row.stands.are_results;
        is_call = row.is_next;
        called = handle;
        is_called = handle_is;
        called_parameters = parameters_are;
        called_results = results_are;
        before = subst (λ (ts : Types). TypesAt h.home h.function h.state.top.at ts) before row.before;
        after = subst (λ (ts : Types). TypesAt h.home h.function (h.state.top.at + 1) ts) following next;
        are_parameters = f.parameter_tags;
        are_results = f.result_names;
        locals = keep_locals h.modules (root_value h.state) look' Nothing kept h.home h.state.top.locals row.stands.tokens (avoid_nothing (local_references h.state.top.locals)) row.stands.locals;
        stack = keep_stack h.modules (root_value h.state) look' Nothing kept h.home rest under (avoid_nothing (references rest)) rest_typed;
        arguments = lent_types h.modules look' arguments c.parameters tagged;
      } in
      record {
        home = c.home;
        function = c.definition;
        types = [];
        is_home = f.is_home;
        is_function = f.is_function;
        are_types = f.starts;
        stands = record {
          tokens = f.own_parameters ++ f.others;
          results = c.results;
          numbered = (omega arith, row.stands.numbered);
          are_tokens = f.are_tokens;
          are_results = f.own_results;
          locals = entered_locals h.modules look' c.home arguments f.own_parameters f.others own_arguments;
          stack = tt;
          below = (waiting, keep_below h.modules (root_value h.state) look' Nothing kept h.state.top.entered_with row.stands.results h.state.below (below_avoids_nothing h.state.top.entered_with h.state.below) row.stands.below);
          storage = row.stands.storage;
        };
      }

  pub calls : of_call h.home k types ≡ Some after → Part (TurnTyped h.modules) (call h k)
  unfolding call
  calls e =
      on_bind (slice_get h.home.function_handles k) _ after e (λ handle handle_is e1.
      on_bind (slice_get h.home.signatures handle.parameters) _ after e1 (λ parameters parameters_are e2.
      on_bind (slice_get h.home.signatures handle.results) _ after e2 (λ results results_are e3.
      let f = row.facts.call k handle parameters results handle_is parameters_are results_are in
      let parts = takes_gives-is parameters results types after e3 in
      let look : Roots = root_value h.state in
      let taken = take_operands h.modules look h.home h.state.top.stack parameters parts.0 (subst (λ (ts : Types). HaveTokens h.modules look h.home h.state.top.stack ts) parts.1 row.stands.stack) in
      let long : length parameters ≡ length f.callee_is.parameters = sym (names_length h.home parameters f.callee_is.parameters f.parameter_tags) in
      let typed = tokens_have_tags h.modules (root_value h.state) h.home taken.arguments parameters f.callee_is.parameters taken.arguments_typed f.parameter_tags in
      known (TurnTyped h.modules) (callee h k) _ f.callee_is f.is_found
      (known (TurnTyped h.modules) (operands (length f.callee_is.parameters) h.state.top.stack) _ (taken.arguments, taken.rest)
      (subst (λ (n : ℕ). operands n h.state.top.stack ≡ Ok (taken.arguments, taken.rest)) long taken.is_taken)
      (passes (TurnTyped h.modules) (have_tags h.state taken.arguments f.callee_is.parameters) _ _ (typed_have_tags (fields_by_name h.modules) h.state taken.arguments f.callee_is.parameters typed)
      (known (TurnTyped h.modules) (entry f.callee_is.home.signatures f.callee_is.definition.locals) _ f.others (ap (λ (x : Option (List Token)). ok_or x (Faults LinkageFault)) f.are_others)
      (enters handle parameters results handle_is parameters_are results_are f parts.0 taken.arguments taken.rest parts.1 parts.2 taken.arguments_typed taken.rest_typed)))))))

abbrev first_or : {A B E : Type 0} → A → Result (A × B) E → A
first_or d (Ok x) = x.0
first_or d (Err e) = d

pair_first : {A B E : Type 0} (a a' : A) (b b' : B) (r : Result (A × B) E) → r ≡ Ok (a, b) → r ≡ Ok (a', b') → a ≡ a'
pair_first a a' b b' r e g = sym (ap (first_or a) e) ∙ ap (first_or a) g

nothing_left : (modules : List Module) (look : Roots) (home : Module) (vs : List Value) → HaveTokens modules look home vs [] → eqb (length vs) 0 ≡ true
nothing_left modules look home [] h = refl
nothing_left modules look home (v ∷ vs) h = absurd h

module _ (h : Here) (types after : Types) (row : Row h Ret types after) where
  abbrev gone : Root → Type 0
  gone root = (l : ℕ) × (root ≡ Local h.state.top.number l)

  -- the state with the caller at work again
  abbrev resumed : Frame → List Frame → List Value → State
  resumed f fs stack = record (h.state) { top = record f { stack = stack }; below = fs }

  kept_returned : (f : Frame) (fs : List Frame) (stack : List Value) → h.state.below ≡ f ∷ fs → Kept h.modules (root_value h.state) (root_value (resumed f fs stack)) gone
  kept_returned f fs stack e (Stored key) t far r = record { value = r.value; is_there = r.is_there; is_of = r.is_of }
  kept_returned f fs stack e (Local m k) t far r =
      let p = ne_eqb h.state.top.number m (λ same. far (k, ap (λ (n : ℕ). Local n k) (sym same))) in
      let there : local_in h.state.below m k ≡ Some r.value = subst (λ (x : Bool). cond x (local_value h.state.top k) (local_in h.state.below m k) ≡ Some r.value) p r.is_there in
      record { value = r.value; is_there = subst (λ (gs : List Frame). local_in gs m k ≡ Some r.value) e there; is_of = r.is_of }

  leave : (fs : List Frame) (results : List Token) (arguments rest : List Value) → h.state.below ≡ fs → types ≡ reverse results ++ []
      → tokens_named h.home results ≡ Some row.stands.results → operands (length results) h.state.top.stack ≡ Ok (arguments, rest)
      → AreWaiting h.modules (root_value h.state) h.state.top.entered_with row.stands.results fs → Numbered h.state.top.number fs
      → Avoid gone (references h.state.top.stack) → BelowAvoid gone [] fs → Part (TurnTyped h.modules) (leaves h arguments fs)
  leave [] results arguments rest below_is same named taken_is w n free below_free = row.stands.storage
  leave (f ∷ fs) results arguments rest below_is same named taken_is w n free below_free =
      let stack : List Value = reverse arguments ++ f.stack in
      let s' : State = resumed f fs stack in
      let look' : Roots = root_value s' in
      let kept = kept_returned f fs stack below_is in
      let c = w.0 in
      let all : HaveTokens h.modules look' h.home h.state.top.stack (reverse results ++ []) =
      subst (λ (ts : Types). HaveTokens h.modules look' h.home h.state.top.stack ts) same
      (keep_stack h.modules (root_value h.state) look' gone kept h.home h.state.top.stack types free row.stands.stack) in
      let taken = take_operands h.modules look' h.home h.state.top.stack results [] all in
      let arguments_are : taken.arguments ≡ arguments = pair_first taken.arguments arguments taken.rest rest (operands (length results) h.state.top.stack) taken.is_taken taken_is in
      let typed : HaveTokens h.modules look' h.home arguments results = subst (λ (vs : List Value). HaveTokens h.modules look' h.home vs results) arguments_are taken.arguments_typed in
      let tagged = tokens_have_tags h.modules (root_value s') h.home arguments results row.stands.results typed named in
      let given = have_tokens h.modules look' c.home arguments c.results row.stands.results tagged c.are_results in
      let under = keep_stack h.modules (root_value h.state) look' gone kept c.home f.stack c.under below_free.1.1 c.stack in
      let lower : f.number < h.state.top.number = n.0 in
      let bound : h.state.top.number < h.state.entered = row.stands.numbered.0 in
      record {
        home = c.home;
        function = c.function;
        types = reverse c.results ++ c.under;
        is_home = c.is_home;
        is_function = c.is_function;
        are_types = c.after;
        stands = record {
          tokens = c.tokens;
          results = c.own_results;
          numbered = (omega (arith, lower, bound), n.1);
          are_tokens = c.are_tokens;
          are_results = c.are_own_results;
          locals = keep_locals h.modules (root_value h.state) look' gone kept c.home f.locals c.tokens below_free.1.0 c.locals;
          stack = joined h.modules look' c.home (reverse arguments) f.stack (reverse c.results) c.under (turned h.modules look' c.home arguments c.results given) under;
          below = keep_below h.modules (root_value h.state) look' gone kept f.entered_with c.own_results fs below_free.2 w.1;
          storage = row.stands.storage;
        };
      }

  pub returns : of_return h.home h.function types ≡ Some after → Leaving h.state → Part (TurnTyped h.modules) (return_results h)
  unfolding return_results signature_tags
  returns e free =
      on_bind (slice_get h.home.function_handles h.function.handle) _ after e (λ handle handle_is e1.
      on_bind (slice_get h.home.signatures handle.results) _ after e1 (λ results results_are e2.
      on_test (same_tokens types (reverse results)) [] after e2 (λ same given.
      let types_are : types ≡ reverse results ++ [] = lists_equal types (reverse results) same ∙ sym (append-nil (reverse results)) in
      let look : Roots = root_value h.state in
      let named : tokens_named h.home results ≡ Some row.stands.results = rw (handle_is, results_are) at row.stands.are_results in
      let taken = take_operands h.modules look h.home h.state.top.stack results [] (subst (λ (ts : Types). HaveTokens h.modules look h.home h.state.top.stack ts) types_are row.stands.stack) in
      let typed = tokens_have_tags h.modules (root_value h.state) h.home taken.arguments results row.stands.results taken.arguments_typed named in
      let long : length results ≡ length row.stands.results = sym (names_length h.home results row.stands.results named) in
      known (TurnTyped h.modules) (entry h.home.function_handles h.function.handle) _ handle (ap (λ (x : Option FunctionHandle). ok_or x (Faults LinkageFault)) handle_is)
      (known (TurnTyped h.modules) (entry h.home.signatures handle.results >>=ᵣ for_each (tag_named h.modules h.home)) _ row.stands.results
      (rw results_are (tags_found h row.facts results row.stands.results named))
      (known (TurnTyped h.modules) (operands (length row.stands.results) h.state.top.stack) _ (taken.arguments, taken.rest)
      (subst (λ (n : ℕ). operands n h.state.top.stack ≡ Ok (taken.arguments, taken.rest)) long taken.is_taken)
      (passes (TurnTyped h.modules) (eqb (length taken.rest) 0) _ _ (nothing_left h.modules look h.home taken.rest taken.rest_typed)
      (passes (TurnTyped h.modules) (have_tags h.state taken.arguments row.stands.results) _ _ (typed_have_tags (fields_by_name h.modules) h.state taken.arguments row.stands.results typed)
      (tested (TurnTyped h.modules) (need (list_all (may_drop h) h.state.top.locals) (Faults LostFault)) _ (lost (list_all (may_drop h) h.state.top.locals))
      (tested (TurnTyped h.modules) (need (not (list_any (holds_frame h.state.top.number) (references taken.arguments ++ flat_map frame_references h.state.below)))
      (Faults FrozenFault)) _ (needed _ (Faults FrozenFault) tt)
      (leave h.state.below results taken.arguments taken.rest refl types_are named taken.is_taken row.stands.below row.stands.numbered.1 free.0 free.1))))))))))
