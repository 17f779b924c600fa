-- The whole: a run of linked code over an accepted store agrees with the machine's run.
use Rattle.mv_interpreter.proofs.Flat.Common.{◌≡◌, ℕ, suc, ◌≤◌, List, map, length, sym, subst, [], ◌∷◌, ◌++◌, refl, Result, Ok, Option, Some, None, option_map_or, flat_map, replicate, Module}
use Rattle.mv_interpreter.proofs.Flat.Common.{Tag, LeafTag, StructTag, ReferenceTag, Token, flat, FunctionCall, Storage, State, Failure, Value, Ref, IsLinked, Program, tokens_named}
use Rattle.mv_interpreter.proofs.Flat.Common.{width_of_tokens, width_of_tags, FlatOutcome, FlatStuck, SameOutcome, flat_entry, History, ValueWords, LocalsWords, Represented, StoreAccepted}
use Rattle.mv_interpreter.proofs.Flat.Common.{SoundStore, HaveTypes, HasType, Guides, StorageTyped}
use Rattle.mv_soundness.proofs.Typing.Operands.{on_names}
use Rattle.mv_soundness.proofs.Typing.Structs.{names_length}
use Rattle.mv_soundness.proofs.Typing.Addresses.{accepted_is_sound}
use Rattle.mv_soundness.proofs.Words.Leaves.{Sized}
use Rattle.mv_soundness.proofs.Words.Sizes.{sizes}
use Rattle.mv_interpreter.proofs.{Flat.Slot.widths_named, Flat.Arguments.ListWords, Flat.Grow.entered_locals, Flat.Grow.opened-long, Flat.Grow.all_named, Flat.Grow.named_split}
use Rattle.mv_soundness.proofs.Typing.Roots.{tokens_have_tags}
use Rattle.mv_interpreter.proofs.{Flat.Calls.types_are, Flat.Run.turns_follow}
use Rattle.mv_soundness.proofs.Typing.First.{Nowhere, CallTyped, begun, first_typed, first_is}
use Rattle.mv_machine.specs.Run.{outcome_from, run}
use Rattle.mv_soundness.specs.Typing.HasType.{fields_by_name}
use Rattle.mv_interpreter.specs.Flat.FlatRun.{flat_turns, flat_first, flat_run, width_of_others}
use Rattle.mv_interpreter.specs.Flat.FlatStep.{opened}
use Rattle.std.proofs.lemmas.Option.{none-some}

module _ (modules : List Module) (history : History) where
  -- arguments that are no references have the words of their leaves
  argument_words : (v : Value) (t : Tag) → HasType (fields_by_name modules) Nowhere v t → ValueWords modules history v (flat v)
  argument_words (Ref r) (LeafTag k) h = absurd h
  argument_words (Ref r) (StructTag name) h = absurd h
  argument_words (Ref r) (ReferenceTag m to) h = absurd (none-some h.1.root.value h.1.root.is_there)
  argument_words v t h = refl

  arguments_words : (vs : List Value) (ts : List Tag) → HaveTypes (fields_by_name modules) Nowhere vs ts → ListWords modules history vs (flat_map flat vs)
  arguments_words [] ts h = refl
  arguments_words (v ∷ vs) [] h = absurd h
  arguments_words (v ∷ vs) (t ∷ ts) h = (flat v, flat_map flat vs, refl, argument_words v t h.0, arguments_words vs ts h.1)

-- the first state of the flat run represents that of the run
first_represented : (modules : List Module) (above : List ℕ) (storage : Storage) (call : FunctionCall) (c : CallTyped modules call) → SoundStore modules → Sized modules → StorageTyped modules storage →
    Represented modules (begun storage call (length c.others)) (flat_first (map flat_entry storage) call.function (flat_map flat call.arguments) (opened (width_of_tokens modules c.home c.others) above))
first_represented modules above storage call c store sized stored =
    let facts = store.facts c.home c.function (begun storage call (length c.others)) c.is_home c.is_function in
    let named = all_named c.home (c.parameters ++ c.others) (λ l t e. facts.local_names (c.parameters ++ c.others) l t c.are_tokens e) in
    let first = named_first c.home c.parameters c.others named.0 named.1 in
    let apart = named_split c.home c.parameters c.others first.0 named.0 named.1 first.1 in
    let history : History = record { base = 0; types = named.0 } ∷ [] in
    let typed = tokens_have_tags modules Nowhere c.home call.arguments c.parameters first.0 c.arguments first.1 in
    let more : List ℕ = opened (width_of_tags modules apart.0) above in
    let locals : LocalsWords modules history (map Some call.arguments ++ replicate (length apart.0) None) (first.0 ++ apart.0) (flat_map flat call.arguments ++ more) =
    entered_locals modules history sized Nowhere call.arguments first.0 apart.0 (flat_map flat call.arguments) more typed (arguments_words modules history call.arguments first.0 typed)
    (opened-long (width_of_tags modules apart.0) above) in
    let long : length apart.0 ≡ length c.others = names_length c.home c.others apart.0 apart.1 in
    subst (λ (n : ℕ). Represented modules (begun storage call (length c.others)) (flat_first (map flat_entry storage) call.function (flat_map flat call.arguments) (opened n above)))
    (sym (widths_named modules c.home c.others apart.0 apart.1)) (
      history,
      record {
        counted = refl;
        words = (
          [],
          [],
          record {
            types = named.0;
            area = flat_map flat call.arguments ++ more;
            function = refl;
            at = refl;
            base = refl;
            are_types = types_are modules call.function c.home c.function (c.parameters ++ c.others) named.0 c.is_home c.is_function c.are_tokens named.1;
            is_known = refl;
            locals_are = refl;
            holds = subst (λ (n : ℕ). LocalsWords modules history (map Some call.arguments ++ replicate n None) named.0 (flat_map flat call.arguments ++ more)) long
                (subst (λ (ts : List Tag). LocalsWords modules history (map Some call.arguments ++ replicate (length apart.0) None) ts (flat_map flat call.arguments ++ more)) (sym apart.2) locals);
            stack = refl;
          },
          (refl, refl),
        );
        storage = refl;
        steps = refl;
        events = refl;
      },
    )
  where
    named_first : (m : Module) (ts us : List Token) (all : List Tag) → tokens_named m (ts ++ us) ≡ Some all → (a : List Tag) × (tokens_named m ts ≡ Some a)
    named_first m [] us all e = ([], refl)
    named_first m (t ∷ ts) us all e =
        on_names m t (ts ++ us) all e (λ tag rest tag_is rest_is whole.
        let inner = named_first m ts us rest rest_is in
        (tag ∷ inner.0, rw (tag_is, inner.1) refl))

pub others_are : (modules : List Module) (call : FunctionCall) (c : CallTyped modules call) → width_of_others modules call.function ≡ Some (width_of_tokens modules c.home c.others)
others_are modules call c = rw (c.is_home, c.is_function, c.are_others) refl

-- a run of linked code from a typed call over a typed storage ends as the machine's run does, wherever that meets no fault
pub flat_run_follows : (modules : List Module) (program : Program) (above : ℕ → List ℕ) (P : State → Type 0) (storage : Storage) (call : FunctionCall) (budget : ℕ)
    → StoreAccepted modules → length modules ≤ 65536 → IsLinked modules program → Guides modules P → (c : CallTyped modules call)
    → StorageTyped modules storage → P (begun storage call (length c.others))
    → SameOutcome modules (run modules storage call budget) (flat_run modules program above (map flat_entry storage) call.function (flat_map flat call.arguments) budget)
unfolding run flat_run
flat_run_follows modules program above P storage call budget accepted few linked guides c stored p =
    let store : SoundStore modules = accepted_is_sound modules accepted in
    let sized : Sized modules = sizes modules accepted in
    let flat_ends : Option ℕ → FlatOutcome =
    λ others. option_map_or (λ others. flat_turns program (λ n. above (suc n)) budget (flat_first (map flat_entry storage) call.function (flat_map flat call.arguments) (opened others (above 0)))) others FlatStuck in
    subst (λ (r : Result State Failure). SameOutcome modules (outcome_from modules budget r) (flat_ends (width_of_others modules call.function))) (sym (first_is modules storage call c))
    (subst (λ (r : Option ℕ). SameOutcome modules (outcome_from modules budget (Ok (begun storage call (length c.others)))) (flat_ends r)) (sym (others_are modules call c))
    (turns_follow modules program (λ n. above (suc n)) P budget (begun storage call (length c.others))
    (flat_first (map flat_entry storage) call.function (flat_map flat call.arguments) (opened (width_of_tokens modules c.home c.others) (above 0))) store sized few linked guides
    (first_typed modules storage call c stored) p (first_represented modules (above 0) storage call c store sized stored)))
