-- The least availabilities of a function fit it, and hold.
use Rattle.std.proofs.Common.{◌≡◌, ◌==◌, ℕ, suc, true, false, ◌&&◌, List, [], ◌∷◌, length, map, ◌≤◌, Option, Some}
use Rattle.std.proofs.Common.{None, is_some, option_map, slice_get, nat_le, IsTrue, Err, IsErrOf, refl, sym, ap, ◌∙◌, subst, eq-eqb}
use Rattle.std.specs.List.{list_all}
use Rattle.std.specs.Option.{option_map_or}
use Rattle.std.proofs.lemmas.Bool.{and_from}
use Rattle.std.proofs.lemmas.Option.{same_Some}
use Rattle.mv_type_rules.proofs.Steps.{bind_some}
use Rattle.mv_move_types.specs.declared.borrow.Availability.{Availability}
use Rattle.mv_move_types.specs.declared.token.Token.{Token}
use Rattle.mv_move_types.specs.Module.{Module, FunctionDefinition, local_tokens, parameter_tokens}
use Rattle.mv_bound_rules.specs.Bounds.{local_count}
use Rattle.mv_cfg.specs.declared.Cfg.{Cfg}
use Rattle.mv_cfg.specs.FlowGraph.{IsFlowGraph}
use Rattle.mv_type_rules.specs.TypesHold.{function_is_typed}
use Rattle.mv_lattice.specs.Flow.{IsFlow, IsClosed, IsStated, IsFlowBelow}
use Rattle.mv_lattice.specs.Order.{Order}
use Rattle.mv_lattice.specs.declared.search.SolveError.{SolveError}
use Rattle.mv_lattice.specs.declared.search.SolveError.TheVariants.{Need as NeedFails, TooComplex as SearchTooComplex, Memory as MemoryOut}
use Rattle.mv_certificate_rules.specs.LocalsRules.{start_locals}
use Rattle.mv_locals_safety.specs.Domain.{IsOfLocals, locals_order}
use Rattle.mv_certificate_rules.specs.Certificate.{Stated}
use Rattle.mv_certificate.specs.Functions.{LocalsHoldAt}
use Rattle.mv_certificate.specs.Reads.{FitsAt}
use Rattle.mv_certificate_rules.specs.Shape.{StatedFits, known_fits}
use Rattle.mv_certificate.proofs.Texts.{block_fits}
use Rattle.mv_certificate.proofs.Marks.{stated-fits}
use Rattle.mv_certificate.proofs.States.{locals-flow-at}
use Rattle.mv_certificate.proofs.Holds.{locals_exact_at}
use Rattle.mv_analyser.specs.Least.{HasLeastLocals, stated_locals}
use Rattle.mv_analyser.specs.Principal.{HoldsAt, IsUnprovedBy}
use Rattle.mv_analyser.specs.States.{without_edges, locals_alone, error_of}
use Rattle.mv_analyser.proofs.Marks.{flow-marks}
use Rattle.mv_analyser.proofs.Chains.{Leq}

-- ---- availabilities, with no edges

pub alone_marks : (v : List (Option (List Availability))) → map is_some (locals_alone v) ≡ map is_some v
alone_marks [] = refl
alone_marks (None ∷ v) = ap (λ r. false ∷ r) (alone_marks v)
alone_marks (Some s ∷ v) = ap (λ r. true ∷ r) (alone_marks v)

pub alone_locals : (v : List (Option (List Availability))) → map (option_map (λ k. k.locals)) (locals_alone v) ≡ v
alone_locals [] = refl
alone_locals (None ∷ v) = ap (λ r. None ∷ r) (alone_locals v)
alone_locals (Some s ∷ v) = ap (λ r. Some s ∷ r) (alone_locals v)

module _ (m : Module) (d : FunctionDefinition) (tokens : List Token) (known : local_tokens m d ≡ Some tokens) where
  one_fits : (s : List Availability) → IsOfLocals m d s → known_fits m d (without_edges s) ≡ true
  one_fits s long =
      let count : local_count m d ≡ length tokens = rw known refl in
      let size : (length s == length tokens) ≡ true = eq-eqb (length s) (length tokens) (long ∙ count) in
      let first : option_map_or (λ ts. length s == length ts) (local_tokens m d) false ≡ true = rw known size in
      and_from (option_map_or (λ ts. length s == length ts) (local_tokens m d) false && nat_le 0 1024 && true) true
      (and_from (option_map_or (λ ts. length s == length ts) (local_tokens m d) false && nat_le 0 1024) true
      (and_from (option_map_or (λ ts. length s == length ts) (local_tokens m d) false) (nat_le 0 1024) first refl) refl) refl

  alone_fits : (v : List (Option (List Availability))) → ((k : ℕ) (s : List Availability) → IsStated v k s → IsOfLocals m d s) → list_all (block_fits m d) (locals_alone v) ≡ true
  alone_fits [] each = refl
  alone_fits (None ∷ v) each = alone_fits v (λ k s e. each (suc k) s e)
  alone_fits (Some s ∷ v) each = and_from (known_fits m d (without_edges s)) (list_all (block_fits m d) (locals_alone v)) (one_fits s (each 0 s refl)) (alone_fits v (λ k t e. each (suc k) t e))

-- what stands for the function at a place
pub at_function : (m : Module) (f : ℕ) (d : FunctionDefinition) (P : FunctionDefinition → Type 0) → slice_get m.functions f ≡ Some d → P d → (x : FunctionDefinition) → slice_get m.functions f ≡ Some x
    → P x
at_function m f d P at p x e = subst P (same_Some d x (sym at ∙ e)) p

module _ (m m' : Module) (f : ℕ) (d d' : FunctionDefinition) (g : Cfg) (home : m' ≡ m) (at : slice_get m.functions f ≡ Some d) (at' : slice_get m.functions f ≡ Some d')
    (fg : IsFlowGraph d.code g) (typed : IsTrue (function_is_typed m d)) (start : List Availability) (begin : start_locals m' d' ≡ Some start) where
  same : d' ≡ d
  same = same_Some d' d (sym at' ∙ at)

  pub few_locals : local_count m d ≤ 64 → local_count m' d' ≤ 64
  few_locals few = subst (λ z. local_count z d' ≤ 64) (sym home) (subst (λ z. local_count m z ≤ 64) (sym same) few)

  -- the least availabilities fit the function
  pub least_fits : (v : List (Option (List Availability))) (stated : Stated) → stated ≡ locals_alone v → IsFlow (locals_order m' d') g v → FitsAt m f stated
  least_fits v stated is flow =
      let here : IsFlow (locals_order m d) g v = subst (λ z. IsFlow (locals_order m z) g v) same (subst (λ z. IsFlow (locals_order z d') g v) home flow) in
      let begin1 : start_locals m d ≡ Some start = subst (λ z. start_locals m z ≡ Some start) same (subst (λ z. start_locals z d' ≡ Some start) home begin) in
      let parameters = bind_some (parameter_tokens m d) _ start begin1 in
      let tokens = bind_some (local_tokens m d) _ start parameters.1.1 in
      subst (FitsAt m f) (sym is)
      (at_function m f d (λ x. StatedFits m x (locals_alone v)) at
      (stated-fits m d g (locals_alone v) fg (alone_marks v ∙ flow-marks (locals_order m d) g (length d.code) v fg.graph here) (alone_fits m d tokens.0 tokens.1.0 v here.states)))

  -- and they hold
  pub least_holds : (v : List (Option (List Availability))) (stated : Stated) → stated ≡ locals_alone v → IsFlow (locals_order m' d') g v → IsClosed (locals_order m' d') g start v
      → LocalsHoldAt m f stated
  least_holds v stated is flow closed =
      subst (LocalsHoldAt m f) (sym is) ((locals_exact_at m m' f d d' g (locals_alone v) home at at' fg typed start v begin (sym (alone_locals v)) flow).0 closed)

  -- and they are below all that fit and hold
  pub least_of_all : (v : List (Option (List Availability))) (stated : Stated) → stated ≡ locals_alone v
      → ((flow : List (Option (List Availability))) → IsFlow (locals_order m' d') g flow → IsClosed (locals_order m' d') g start flow → IsFlowBelow Leq v flow) → HasLeastLocals m f stated
  least_of_all v stated is least = λ other fits holds.
      let all : List (Option (List Availability)) = stated_locals other in
      let flow = locals-flow-at m m' f d d' g other all home at at' fg fits refl in
      let below : IsFlowBelow Leq v all = least all flow ((locals_exact_at m m' f d d' g other home at at' fg typed start all begin refl flow).1 holds) in
      let same_states : stated_locals stated ≡ v = ap stated_locals is ∙ alone_locals v in
      subst (λ z. IsFlowBelow Leq z all) (sym same_states) below

  -- where there is no closed flow, none holds
  pub none_holds : ((flow : List (Option (List Availability))) → IsFlow (locals_order m' d') g flow → IsClosed (locals_order m' d') g start flow → ⊥) → (stated : Stated) → FitsAt m f stated
      → LocalsHoldAt m f stated → ⊥
  none_holds never stated fits holds =
      let all : List (Option (List Availability)) = map (option_map (λ k. k.locals)) stated in
      let flow = locals-flow-at m m' f d d' g stated all home at at' fg fits refl in
      never all flow ((locals_exact_at m m' f d d' g stated home at at' fg typed start all begin refl flow).1 holds)

  -- how the search ends in the domain's function, it ends in the function at the place
  pub locals_end : (Q : Order (List Availability) → Cfg → List Availability → Type 0) → Q (locals_order m' d') g start
      → HoldsAt (λ x h. (s : List Availability) × ((start_locals m x ≡ Some s) × Q (locals_order m x) h s)) m f
  locals_end Q holds = record {
    function = d;
    at = at;
    graph = g;
    is_graph = fg;
    holds = (
      start,
      (
        subst (λ z. start_locals m z ≡ Some start) same (subst (λ z. start_locals z d' ≡ Some start) home begin),
        subst (λ z. Q (locals_order m z) g start) same (subst (λ z. Q (locals_order z d') g start) home holds),
      ),
    );
  }

-- how a search ends, by its error
pub search_error : {T : Type 0} (phase : ℕ) (Fails Complex : Type 0) (e : SolveError) → (IsErrOf {T = T} (Err e) NeedFails → Fails) → (IsErrOf {T = T} (Err e) SearchTooComplex → Complex)
    → IsUnprovedBy (λ p. (p ≡ phase) × Fails) Complex (error_of phase e)
search_error phase Fails Complex NeedFails need complex = (refl, need refl)
search_error phase Fails Complex SearchTooComplex need complex = complex refl
search_error phase Fails Complex MemoryOut need complex = tt
