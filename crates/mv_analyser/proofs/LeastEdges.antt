-- What is stated of a function, with the least edges, fits it, and holds.
use Rattle.std.proofs.Common.{◌≡◌, ◌==◌, ℕ, suc, Bool, true, false, not, ◌&&◌, List, [], ◌∷◌, length, map, drop, get_or}
use Rattle.std.proofs.Common.{Option, Some, None, IsSome, is_some, option_map, slice_get, nat_le, IsTrue, refl, sym, ap, ◌∙◌, subst, arith}
use Rattle.std.proofs.Common.{true≢false}
use Rattle.std.specs.List.{list_all}
use Rattle.std.specs.Option.{option_map_or}
use Rattle.std.specs.Prelude.{⊤}
use Rattle.std.proofs.lemmas.Bool.{and_parts, and_from}
use Rattle.std.proofs.lemmas.Option.{same_Some}
use Rattle.mv_move_types.specs.Module.{Module, FunctionDefinition, StructDefinition, local_tokens}
use Rattle.mv_cfg.specs.declared.Cfg.{Cfg}
use Rattle.mv_cfg.specs.FlowGraph.{IsFlowGraph}
use Rattle.mv_type_rules.specs.TypesHold.{function_is_typed, point_at}
use Rattle.mv_lattice.specs.Flow.{IsFlow, IsClosed, IsStated, IsFlowBelow}
use Rattle.mv_lattice.specs.Order.{Order}
use Rattle.mv_lattice.specs.Work.{AllStated}
use Rattle.mv_certificate_rules.specs.LocalsRules.{locals_after, locals_leq}
use Rattle.mv_edges.specs.Edges.{Edge, edges_leq}
use Rattle.mv_edges.specs.Ascending.{are_ascending}
use Rattle.mv_certificate_rules.specs.BorrowRules.{is_reference_token}
use Rattle.mv_borrow_graph.specs.Domain.{edges_order}
use Rattle.mv_certificate_rules.specs.Nodes.{edge_is_there, may_begin_with, are_few, IsGraphOf}
use Rattle.mv_certificate_rules.specs.Certificate.{Known, Stated, flow_holds, known_at_start}
use Rattle.mv_certificate.specs.Functions.{LocalsHoldAt, EdgesHoldAt}
use Rattle.mv_certificate.specs.Reads.{FitsAt}
use Rattle.mv_certificate_rules.specs.Shape.{StatedFits, known_fits, edge_fits}
use Rattle.mv_certificate.proofs.Texts.{block_fits}
use Rattle.mv_certificate.proofs.Marks.{stated-fits}
use Rattle.mv_certificate.proofs.States.{edges-flow-at}
use Rattle.mv_certificate.proofs.Holds.{edges_exact_at}
use Rattle.mv_certificate.proofs.Whole.{marks-fit}
use Rattle.mv_analyser.specs.Least.{HasLeastLocals, HasLeastEdges, stated_locals, stated_edges}
use Rattle.mv_analyser.specs.Principal.{HasPlainLocals, HoldsAt}
use Rattle.mv_analyser.specs.States.{with_edges, IsSimpleAt}
use Rattle.mv_analyser.proofs.LeastLocals.{at_function}
use Rattle.mv_analyser.proofs.Marks.{flow-marks}

-- ---- what is stated, with edges

-- both are there, block by block, or neither is
abbrev Paired : Stated → List (Option (List Edge)) → Type 0
Paired [] [] = ⊤
Paired [] (e ∷ es) = ⊥
Paired (k ∷ ss) [] = ⊥
Paired (k ∷ ss) (e ∷ es) = (is_some k ≡ is_some e) × Paired ss es

paired : (ss : Stated) (es : List (Option (List Edge))) → map is_some ss ≡ map is_some es → Paired ss es
paired [] [] h = tt
paired [] (e ∷ es) h = let long = ap length h in absurd (omega (arith, long))
paired (k ∷ ss) [] h = let long = ap length h in absurd (omega (arith, long))
paired (k ∷ ss) (e ∷ es) h = (ap (λ xs. get_or xs 0 true) h, paired ss es (ap (drop 1) h))

with_marks : (ss : Stated) (es : List (Option (List Edge))) → Paired ss es → map is_some (with_edges ss es) ≡ map is_some ss
with_marks [] es p = refl
with_marks (k ∷ ss) [] p = absurd p
with_marks (None ∷ ss) (e ∷ es) p = ap (λ r. false ∷ r) (with_marks ss es p.1)
with_marks (Some k ∷ ss) (None ∷ es) p = absurd (true≢false p.0)
with_marks (Some k ∷ ss) (Some e ∷ es) p = ap (λ r. true ∷ r) (with_marks ss es p.1)

with_locals : (ss : Stated) (es : List (Option (List Edge))) → Paired ss es → map (option_map (λ k. k.locals)) (with_edges ss es) ≡ map (option_map (λ k. k.locals)) ss
with_locals [] es p = refl
with_locals (k ∷ ss) [] p = absurd p
with_locals (None ∷ ss) (e ∷ es) p = ap (λ r. None ∷ r) (with_locals ss es p.1)
with_locals (Some k ∷ ss) (None ∷ es) p = absurd (true≢false p.0)
with_locals (Some k ∷ ss) (Some e ∷ es) p = ap (λ r. Some k.locals ∷ r) (with_locals ss es p.1)

with_these : (ss : Stated) (es : List (Option (List Edge))) → Paired ss es → map (option_map (λ k. k.edges)) (with_edges ss es) ≡ es
with_these [] [] p = refl
with_these [] (e ∷ es) p = absurd p
with_these (k ∷ ss) [] p = absurd p
with_these (None ∷ ss) (None ∷ es) p = ap (λ r. None ∷ r) (with_these ss es p.1)
with_these (None ∷ ss) (Some e ∷ es) p = absurd (true≢false (sym p.0))
with_these (Some k ∷ ss) (None ∷ es) p = absurd (true≢false p.0)
with_these (Some k ∷ ss) (Some e ∷ es) p = ap (λ r. Some e ∷ r) (with_these ss es p.1)

-- ---- the shape

edges_have_shape : (m : Module) (d : FunctionDefinition) (es : List Edge) → may_begin_with m d es ≡ true → list_all (λ e. nat_le (length e.label.path) 8) es ≡ true → list_all (edge_fits m d) es ≡ true
edges_have_shape m d [] h g = refl
edges_have_shape m d (e ∷ es) h g =
    let there = and_parts (edge_is_there (point_at m d []) e) (may_begin_with m d es) h in
    let short = and_parts (nat_le (length e.label.path) 8) (list_all (λ e. nat_le (length e.label.path) 8) es) g in
    and_from (edge_fits m d e) (list_all (edge_fits m d) es) (and_from (edge_is_there (point_at m d []) e) (nat_le (length e.label.path) 8) there.0 short.0) (edges_have_shape m d es there.1 short.1)

known_has_shape : (m : Module) (d : FunctionDefinition) (k : Known) (es : List Edge) → known_fits m d k ≡ true → are_ascending es ≡ true → may_begin_with m d es ≡ true → are_few es ≡ true
    → known_fits m d (record { locals = k.locals; edges = es }) ≡ true
known_has_shape m d k es h ascend begin few =
    let sizes : Bool = option_map_or (λ ts. length k.locals == length ts) (local_tokens m d) false in
    let three = and_parts (sizes && nat_le (length k.edges) 1024 && list_all (edge_fits m d) k.edges) (are_ascending k.edges) h in
    let two = and_parts (sizes && nat_le (length k.edges) 1024) (list_all (edge_fits m d) k.edges) three.0 in
    let one = and_parts sizes (nat_le (length k.edges) 1024) two.0 in
    let small = and_parts (nat_le (length es) 1024) (list_all (λ e. nat_le (length e.label.path) 8) es) few in
    and_from (sizes && nat_le (length es) 1024 && list_all (edge_fits m d) es) (are_ascending es)
    (and_from (sizes && nat_le (length es) 1024) (list_all (edge_fits m d) es) (and_from sizes (nat_le (length es) 1024) one.0 small.0) (edges_have_shape m d es begin small.1))
    ascend

-- the edges of a block that a search may state
record MayState (m : Module) (d : FunctionDefinition) (es : List Edge) : Type 0 where
  ascend : are_ascending es ≡ true
  begin : may_begin_with m d es ≡ true
  few : are_few es ≡ true

with_shape : (m : Module) (d : FunctionDefinition) (ss : Stated) (es : List (Option (List Edge))) → list_all (block_fits m d) ss ≡ true → ((k : ℕ) (s : List Edge) → IsStated es k s → MayState m d s)
    → list_all (block_fits m d) (with_edges ss es) ≡ true
with_shape m d [] es h each = refl
with_shape m d (k ∷ ss) [] h each = refl
with_shape m d (None ∷ ss) (e ∷ es) h each = with_shape m d ss es h (λ k s is. each (suc k) s is)
with_shape m d (Some k ∷ ss) (None ∷ es) h each = with_shape m d ss es (and_parts (known_fits m d k) (list_all (block_fits m d) ss) h).1 (λ k s is. each (suc k) s is)
with_shape m d (Some k ∷ ss) (Some e ∷ es) h each =
    let parts = and_parts (known_fits m d k) (list_all (block_fits m d) ss) h in
    let here = each 0 e refl in
    and_from (known_fits m d (record { locals = k.locals; edges = e })) (list_all (block_fits m d) (with_edges ss es))
    (known_has_shape m d k e parts.0 here.ascend here.begin here.few) (with_shape m d ss es parts.1 (λ k s is. each (suc k) s is))

-- ---- a function at a place

module _ (m m' : Module) (f : ℕ) (d d' : FunctionDefinition) (g : Cfg) (home : m' ≡ m) (at : slice_get m.functions f ≡ Some d) (at' : slice_get m.functions f ≡ Some d')
    (fg : IsFlowGraph d.code g) (typed : IsTrue (function_is_typed m d))
  where
    same : d' ≡ d
    same = same_Some d' d (sym at' ∙ at)

    -- the graph is that of the domain's function
    pub graph_is : IsTrue (list_all (λ (s : StructDefinition). list_all (λ t. not (is_reference_token t.token)) s.fields) m.structs)
        → IsTrue (list_all (λ (s : StructDefinition). nat_le (length s.fields) 32) m.structs) → IsGraphOf m' d' g
    graph_is plain few =
        subst (λ z. IsGraphOf z d' g) (sym home) (subst (λ z. IsGraphOf m z g) (sym same) (record { flow = fg; typed = typed; fields = plain; few = few }))

    -- no local of the domain's function is a reference
    pub plain_locals : IsSimpleAt m f → HasPlainLocals m' d'
    plain_locals simple = subst (λ z. HasPlainLocals z d') (sym home) (simple d' at')

    module _ (v : List (Option (List Edge))) (old stated : Stated) (is : stated ≡ with_edges old v) (fits : FitsAt m f old) (flow : IsFlow (edges_order m' d') g v) where
      pairs : Paired old v
      pairs = paired old v (marks-fit m d g old fg (fits d at) ∙ sym (flow-marks (edges_order m' d') g (length d.code) v fg.graph flow))

      pub edges_fit : AllStated (λ s. IsTrue (may_begin_with m' d' s)) v → AllStated (λ s. IsTrue (are_few s)) v → FitsAt m f stated
      edges_fit begin few =
          let begin1 : AllStated (λ s. IsTrue (may_begin_with m d s)) v =
          subst (λ z. AllStated (λ s. IsTrue (may_begin_with m z s)) v) same (subst (λ z. AllStated (λ s. IsTrue (may_begin_with z d' s)) v) home begin) in
          subst (FitsAt m f) (sym is)
          (at_function m f d (λ x. StatedFits m x (with_edges old v)) at
          (stated-fits m d g (with_edges old v) fg (with_marks old v pairs ∙ marks-fit m d g old fg (fits d at))
          (with_shape m d old v (fits d at).fits (λ k s e. record { ascend = flow.states k s e; begin = begin1 k s e; few = few k s e }))))

      pub locals_stay : LocalsHoldAt m f old → LocalsHoldAt m f stated
      locals_stay holds =
          subst (LocalsHoldAt m f) (sym is)
          (λ x e. subst (λ z. option_map_or (λ (start : Known). flow_holds locals_after locals_leq m x start.locals z) (known_at_start m x) false ≡ true) (sym (with_locals old v pairs)) (holds x e))

      pub edges_hold_there : (start : List Edge) → start ≡ [] → IsSome (known_at_start m d) → IsClosed (edges_order m' d') g start v → EdgesHoldAt m f stated
      edges_hold_there start none known closed =
          subst (EdgesHoldAt m f) (sym is)
          ((edges_exact_at m m' f d d' g (with_edges old v) home at at' fg typed start v none known (sym (with_these old v pairs)) flow).0 closed)

      pub locals_stay_least : HasLeastLocals m f old → HasLeastLocals m f stated
      locals_stay_least least = λ other fit holds.
          subst (λ z. IsFlowBelow (λ a b. IsTrue (locals_leq a b)) z (stated_locals other)) (sym (ap stated_locals is ∙ with_locals old v pairs)) (least other fit holds)

      pub edges_are_least : (start : List Edge) → start ≡ [] → IsSome (known_at_start m d)
          → ((w : List (Option (List Edge))) → IsFlow (edges_order m' d') g w → IsClosed (edges_order m' d') g start w → IsFlowBelow (λ a b. IsTrue (edges_leq a b)) v w)
          → HasLeastEdges m f stated
      edges_are_least start none known least = λ other fit holds.
          let all : List (Option (List Edge)) = stated_edges other in
          let other_flow = edges-flow-at m m' f d d' g other all home at at' fg fit refl in
          let below = least all other_flow ((edges_exact_at m m' f d d' g other home at at' fg typed start all none known refl other_flow).1 holds) in
          subst (λ z. IsFlowBelow (λ a b. IsTrue (edges_leq a b)) z all) (sym (ap stated_edges is ∙ with_these old v pairs)) below

    -- where there is no closed flow, no edges hold
    pub no_edges_hold : (start : List Edge) → start ≡ [] → IsSome (known_at_start m d)
        → ((flow : List (Option (List Edge))) → IsFlow (edges_order m' d') g flow → IsClosed (edges_order m' d') g start flow → ⊥)
        → (stated : Stated) → FitsAt m f stated → EdgesHoldAt m f stated → ⊥
    no_edges_hold start none known never stated fits holds =
        let all : List (Option (List Edge)) = map (option_map (λ k. k.edges)) stated in
        let flow = edges-flow-at m m' f d d' g stated all home at at' fg fits refl in
        never all flow ((edges_exact_at m m' f d d' g stated home at at' fg typed start all none known refl flow).1 holds)

    -- how the search ends in the domain's function, it ends in the function at the place
    pub edges_end : (Q : Order (List Edge) → Cfg → List Edge → Type 0) → (start : List Edge) → start ≡ [] → Q (edges_order m' d') g start → HoldsAt (λ x h. Q (edges_order m x) h []) m f
    edges_end Q start none holds = record {
      function = d;
      at = at;
      graph = g;
      is_graph = fg;
      holds = subst (λ s. Q (edges_order m d) g s) none (subst (λ z. Q (edges_order m z) g start) same (subst (λ z. Q (edges_order z d') g start) home holds));
    }
