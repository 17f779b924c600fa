-- Row by row: edges between nodes that are there lead, after an instruction, between nodes that are there with the types after it.
use Rattle.std.proofs.Common.{◌≡◌, ℕ, zero, suc, ◌+◌, ◌-◌, Bool, true, false, cond, not, ◌&&◌, List, [], ◌∷◌, ◌++◌, length, filter, Some}
use Rattle.std.proofs.Common.{refl, sym, ap, ◌∙◌, subst, arith}
use Rattle.std.specs.Prelude.{nat_lt, if◌then◌else◌}
use Rattle.std.specs.List.{list_all}
use Rattle.std.specs.Option.{option_map_or}
use Rattle.std.proofs.lemmas.Bool.{and_from, false≢true, not-true}
use Rattle.std.proofs.lemmas.List.Folds.{list_all-append}
use Rattle.mv_move_types.specs.declared.borrow.Node.{Node}
use Rattle.mv_move_types.specs.declared.borrow.Node.TheVariants.{Slot, Glob, Temp}
use Rattle.mv_move_types.specs.declared.token.ValueType.{ValueType}
use Rattle.mv_move_types.specs.declared.token.Token.{Token}
use Rattle.mv_move_types.specs.declared.token.Token.TheVariants.{Plain}
use Rattle.mv_move_types.specs.Module.{Module, FunctionDefinition, local_type}
use Rattle.mv_type_rules.specs.TypeRules.{Types}
use Rattle.mv_type_rules.specs.TypesHold.{Point, point_at}
use Rattle.mv_edges.specs.Edges.{Label, Edge, same_node, here, extended, inherited, without, renamed, an_edge}
use Rattle.mv_edges.proofs.Insertion.{all_weaker}
use Rattle.mv_certificate_rules.specs.BorrowRules.{is_mutable_token, is_reference_token, next_temp, top_temp, field_edges, global_edges}
use Rattle.mv_certificate_rules.specs.Nodes.{has_place, has_local, leads_out, leads_in, edge_is_there, are_there}
use Rattle.mv_borrow_graph.specs.Laws.Places.{is_under, plain_none, has_over, under_apart, out_stays, in_stays, out_under, in_under, out_free, in_free}
use Rattle.mv_borrow_graph.specs.Laws.Shifts.{Shift, PlainShift, is_plain}
use Rattle.mv_borrow_graph.specs.Laws.There.{IsThere, there_parts, there_from, is_small, each_filter, each_append, each_one, same_node-is}
use Rattle.mv_borrow_graph.specs.Laws.There.{each_inherited, is_free_of, renamed_there, edge_stays, all_stay, others_stay}

-- a local whose type is known
pub local_is : (test : Token → Bool) (p : Point) (l : ℕ) (t : Token) → local_type p.home p.function l ≡ Some t → test t ≡ true → has_local test p l ≡ true
local_is test p l t e h = ap (λ o. option_map_or test o false) e ∙ h

local_type_is : (test : Token → Bool) (p : Point) (l : ℕ) (t : Token) → local_type p.home p.function l ≡ Some t → has_local test p l ≡ true → test t ≡ true
local_type_is test p l t e h = sym (ap (λ o. option_map_or test o false) e) ∙ h

-- at most the place of the one type that is taken is a reference
only_one : (x : Token) (i : ℕ) → has_place is_reference_token (x ∷ []) i ≡ true → i ≡ 0
only_one x zero h = refl
only_one x (suc i) h = absurd (false≢true h)

only_second : (x : Token) (v : ValueType) (i : ℕ) → has_place is_reference_token (x ∷ Plain v ∷ []) i ≡ true → i ≡ 1
only_second x v zero h = absurd (false≢true h)
only_second x v (suc zero) h = refl
only_second x v (suc (suc i)) h = absurd (false≢true h)

only_first : (x : Token) (v : ValueType) (i : ℕ) → has_place is_reference_token (Plain v ∷ x ∷ []) i ≡ true → i ≡ 0
only_first x v zero h = refl
only_first x v (suc zero) h = absurd (false≢true h)
only_first x v (suc (suc i)) h = absurd (false≢true h)

none_taken : (i : ℕ) → has_place is_reference_token [] i ≡ true → ⊥
none_taken i h = false≢true h

none_plain : (x : Token) → is_plain x ≡ true → (i : ℕ) → has_place is_reference_token (x ∷ []) i ≡ true → ⊥
none_plain x h = plain_none (x ∷ []) (and_from (is_plain x) true h refl)

module _ (m : Module) (d : FunctionDefinition) where
  abbrev at : Types → Point
  at types = point_at m d types

  -- a fact of the types before and after, at their parts
  shifted : (s t taken given : Types) → Shift s t taken given → (P : Types → Types → Type 0) → ((rest : Types) → P (taken ++ rest) (given ++ rest)) → P s t
  shifted s t taken given h P f = subst (λ x. P x t) (sym h.before) (subst (λ y. P (taken ++ h.rest) y) (sym h.after) (f h.rest))

  -- the instruction leaves the edges
  pub plain_row : (s t : Types) → PlainShift s t → (es : List Edge) → are_there (at s) es ≡ true → are_there (at t) es ≡ true
  plain_row s t h es =
      shifted s t h.taken h.given h.shift (λ x y. are_there (at x) es ≡ true → are_there (at y) es ≡ true)
      (λ rest. all_stay m d h.taken h.given rest (plain_none h.taken h.plain) es)

  -- the topmost operand's go
  pub top_row : (s t : Types) (x : Token) (given : Types) → Shift s t (x ∷ []) given → (es : List Edge) → are_there (at s) es ≡ true
      → are_there (at t) (without (top_temp (at s)) es) ≡ true
  top_row s t x given h es =
      shifted s t (x ∷ []) given h (λ y z. are_there (at y) es ≡ true → are_there (at z) (without (top_temp (at y)) es) ≡ true)
      (λ rest. others_stay m d (x ∷ []) given rest 0 (only_one x) (top_temp (at (x ∷ rest))) (ap Temp (omega arith)) es)

  -- a write
  pub write_row : (s t : Types) (x : Token) (v : ValueType) → Shift s t (x ∷ Plain v ∷ []) [] → (es : List Edge) → are_there (at s) es ≡ true
      → are_there (at t) (without (top_temp (at s)) es) ≡ true
  write_row s t x v h es =
      shifted s t (x ∷ Plain v ∷ []) [] h (λ y z. are_there (at y) es ≡ true → are_there (at z) (without (top_temp (at y)) es) ≡ true)
      (λ rest. others_stay m d (x ∷ Plain v ∷ []) [] rest 1 (only_second x v) (top_temp (at (x ∷ Plain v ∷ rest))) (ap Temp (omega arith)) es)

  -- a move to the storage
  pub second_row : (s t : Types) (x : Token) (v : ValueType) → Shift s t (Plain v ∷ x ∷ []) [] → (es : List Edge) → are_there (at s) es ≡ true
      → are_there (at t) (without (Temp (length s - 2)) es) ≡ true
  second_row s t x v h es =
      shifted s t (Plain v ∷ x ∷ []) [] h (λ y z. are_there (at y) es ≡ true → are_there (at z) (without (Temp (length y - 2)) es) ≡ true)
      (λ rest. others_stay m d (Plain v ∷ x ∷ []) [] rest 0 (only_first x v) (Temp (length (Plain v ∷ x ∷ rest) - 2)) (ap Temp (omega arith)) es)

  -- ---- the topmost operand is exchanged for a reference
  module _ (x y : Token) (is_ref : is_reference_token y ≡ true) (rest : Types) where
    abbrev before : Point
    before = at (x ∷ rest)

    abbrev after : Point
    after = at (y ∷ rest)

    top_is : top_temp before ≡ Temp (length rest + 0)
    top_is = ap Temp (omega arith)

    into_top : leads_in after (top_temp before) ≡ true
    into_top = ap (leads_in after) top_is ∙ has_over (y ∷ []) rest is_reference_token 0 ∙ is_ref

    -- a node that isn't the operand is under it
    out_other : (n : Node) → leads_out before n ≡ true → same_node n (top_temp before) ≡ false → is_under (length rest) n ≡ true
    out_other n h ne = out_under m d (x ∷ []) (y ∷ []) rest 0 (only_one x) n h (ap (same_node n) (sym top_is) ∙ ne)

    -- an edge into the new reference, from another node
    into_new : (n : Node) (label : Label) → leads_out before n ≡ true → same_node n (top_temp before) ≡ false → is_small label ≡ true
        → edge_is_there after (record { from = n; label = label; to = top_temp before }) ≡ true
    into_new n label h ne small =
        there_from after (record { from = n; label = label; to = top_temp before })
        (record { out = out_stays m d (x ∷ []) (y ∷ []) rest n h (out_other n h ne); into = into_top; apart = ne; small = small })

    freeze_at : (es : List Edge) → are_there before es ≡ true → are_there after (filter (λ e. not (same_node e.from (top_temp before))) es) ≡ true
    freeze_at es h =
        each_filter (λ e. not (same_node e.from (top_temp before))) (edge_is_there before) (edge_is_there after)
        (λ e free t.
        let was = there_parts before e t in
        let ne = not-true (same_node e.from (top_temp before)) free in
        by_to e was ne (same_node e.to (top_temp before)) refl)
        es h
      where
        by_to : (e : Edge) → IsThere before e → same_node e.from (top_temp before) ≡ false
            → (b : Bool) → same_node e.to (top_temp before) ≡ b → edge_is_there after e ≡ true
        by_to e was ne true at_top = there_from after e (record {
          out = out_stays m d (x ∷ []) (y ∷ []) rest e.from was.out (out_other e.from was.out ne);
          into = ap (leads_in after) (same_node-is e.to (top_temp before) at_top) ∙ into_top;
          apart = was.apart;
          small = was.small;
        })
        by_to e was ne false other =
            edge_stays m d (x ∷ []) (y ∷ []) rest e was (out_other e.from was.out ne)
            (in_under m d (x ∷ []) (y ∷ []) rest 0 (only_one x) e.to was.into (ap (same_node e.to) (sym top_is) ∙ other))

    -- a label one position longer
    longer_small : (f : ℕ) → nat_lt f 32 ≡ true → (label : Label) → is_small label ≡ true → is_small (extended f label) ≡ true
    longer_small f low label h = by_open label.is_open
      where
        by_open : (b : Bool) → list_all (λ i. nat_lt i 32) (if b then label.path else (label.path ++ f ∷ [])) ≡ true
        by_open true = h
        by_open false = list_all-append (λ i. nat_lt i 32) label.path (f ∷ [])
            ∙ and_from (is_small label) (list_all (λ i. nat_lt i 32) (f ∷ [])) h (and_from (nat_lt f 32) true low refl)

    field_at : (f : ℕ) → nat_lt f 32 ≡ true → (es : List Edge) → are_there before es ≡ true → are_there after (field_edges before f es) ≡ true
    field_at f low es h =
        let top = top_temp before in
        each_append (edge_is_there after) (without top es) (inherited (extended f) top top es)
        (others_stay m d (x ∷ []) (y ∷ []) rest 0 (only_one x) top top_is es h)
        (each_inherited (edge_is_there before) (edge_is_there after) (extended f) top top
        (λ e t into_it.
        let was = there_parts before e t in
        into_new e.from (extended f e.label) was.out (ap (same_node e.from) (sym (same_node-is e.to top into_it)) ∙ was.apart)
        (longer_small f low e.label was.small))
        es h)

    global_at : is_plain x ≡ true → (i : ℕ) → nat_lt i (length m.structs) ≡ true → (es : List Edge) → are_there before es ≡ true
        → are_there after (global_edges before i es) ≡ true
    global_at plain i low es h =
        each_append (edge_is_there after) es (an_edge (Glob i) here (top_temp before) ∷ [])
        (all_stay m d (x ∷ []) (y ∷ []) rest (none_plain x plain) es h)
        (each_one (edge_is_there after) (an_edge (Glob i) here (top_temp before))
        (there_from after (an_edge (Glob i) here (top_temp before)) (record { out = low; into = into_top; apart = refl; small = refl })))

  pub freeze_row : (s t : Types) (x y : Token) → is_reference_token y ≡ true → Shift s t (x ∷ []) (y ∷ []) → (es : List Edge) → are_there (at s) es ≡ true
      → are_there (at t) (filter (λ e. not (same_node e.from (top_temp (at s)))) es) ≡ true
  freeze_row s t x y r h es =
      shifted s t (x ∷ []) (y ∷ []) h (λ a b. are_there (at a) es ≡ true → are_there (at b) (filter (λ e. not (same_node e.from (top_temp (at a)))) es) ≡ true)
      (λ rest. freeze_at x y r rest es)

  pub field_row : (s t : Types) (x y : Token) → is_reference_token y ≡ true → Shift s t (x ∷ []) (y ∷ [])
      → (f : ℕ) → nat_lt f 32 ≡ true → (es : List Edge) → are_there (at s) es ≡ true
      → are_there (at t) (field_edges (at s) f es) ≡ true
  field_row s t x y r h f low es =
      shifted s t (x ∷ []) (y ∷ []) h (λ a b. are_there (at a) es ≡ true → are_there (at b) (field_edges (at a) f es) ≡ true)
      (λ rest. field_at x y r rest f low es)

  pub global_row : (s t : Types) (x y : Token) → is_plain x ≡ true → is_reference_token y ≡ true → Shift s t (x ∷ []) (y ∷ [])
      → (i : ℕ) → nat_lt i (length m.structs) ≡ true → (es : List Edge) → are_there (at s) es ≡ true
      → are_there (at t) (global_edges (at s) i es) ≡ true
  global_row s t x y p r h i low es =
      shifted s t (x ∷ []) (y ∷ []) h (λ a b. are_there (at a) es ≡ true → are_there (at b) (global_edges (at a) i es) ≡ true)
      (λ rest. global_at x y r rest p i low es)

  -- ---- a reference is put on the stack
  module _ (y : Token) (is_ref : is_reference_token y ≡ true) (rest : Types) where
    abbrev pub under : Point
    under = at rest

    abbrev pub over : Point
    over = at (y ∷ rest)

    next_is : next_temp under ≡ Temp (length rest + 0)
    next_is = ap Temp (omega arith)

    into_next : leads_in over (next_temp under) ≡ true
    into_next = ap (leads_in over) next_is ∙ has_over (y ∷ []) rest is_reference_token 0 ∙ is_ref

    apart_next : (n : Node) → is_under (length rest) n ≡ true → same_node n (next_temp under) ≡ false
    apart_next n u = ap (same_node n) next_is ∙ under_apart (length rest) 0 n u

    outs_under : (n : Node) → leads_out under n ≡ true → is_under (length rest) n ≡ true
    outs_under n h = out_free m d [] (y ∷ []) rest none_taken n h

    ins_under : (n : Node) → leads_in under n ≡ true → is_under (length rest) n ≡ true
    ins_under n h = in_free m d [] (y ∷ []) rest none_taken n h

    outs_stay : (n : Node) → leads_out under n ≡ true → leads_out over n ≡ true
    outs_stay n h = out_stays m d [] (y ∷ []) rest n h (outs_under n h)

    ins_stay : (n : Node) → leads_in under n ≡ true → leads_in over n ≡ true
    ins_stay n h = in_stays m d [] (y ∷ []) rest n h (ins_under n h)

    edges_stay : (es : List Edge) → are_there under es ≡ true → are_there over es ≡ true
    edges_stay es = all_stay m d [] (y ∷ []) rest none_taken es

    pub lent_at : (n : Node) → leads_out under n ≡ true → (es : List Edge) → are_there under es ≡ true
        → are_there over (es ++ an_edge n here (next_temp under) ∷ []) ≡ true
    lent_at n h es all =
        each_append (edge_is_there over) es (an_edge n here (next_temp under) ∷ []) (edges_stay es all)
        (each_one (edge_is_there over) (an_edge n here (next_temp under))
        (there_from over (an_edge n here (next_temp under))
        (record { out = outs_stay n h; into = into_next; apart = apart_next n (outs_under n h); small = refl })))

    pub copied_at : (l : ℕ) (es : List Edge) → are_there under es ≡ true
        → are_there over (es ++ inherited (λ label. label) (Slot l) (next_temp under) es) ≡ true
    copied_at l es all =
        each_append (edge_is_there over) es (inherited (λ label. label) (Slot l) (next_temp under) es) (edges_stay es all)
        (each_inherited (edge_is_there under) (edge_is_there over) (λ label. label) (Slot l) (next_temp under)
        (λ e t _.
        let was = there_parts under e t in
        there_from over (record { from = e.from; label = e.label; to = next_temp under })
        (record { out = outs_stay e.from was.out; into = into_next; apart = apart_next e.from (outs_under e.from was.out); small = was.small }))
        es all)

    -- a mutable copy is a child of its original, too
    pub child_at : (l : ℕ) → leads_out under (Slot l) ≡ true → (es : List Edge) → are_there under es ≡ true
        → are_there over (es ++ inherited (λ label. label) (Slot l) (next_temp under) es ++ an_edge (Slot l) here (next_temp under) ∷ []) ≡ true
    child_at l h es all =
        each_append (edge_is_there over) (es ++ inherited (λ label. label) (Slot l) (next_temp under) es)
        (an_edge (Slot l) here (next_temp under) ∷ []) (copied_at l es all)
        (each_one (edge_is_there over) (an_edge (Slot l) here (next_temp under))
        (there_from over (an_edge (Slot l) here (next_temp under))
        (record { out = outs_stay (Slot l) h; into = into_next; apart = apart_next (Slot l) refl; small = refl })))

    pub moved_at : (l : ℕ) → local_type m d l ≡ Some y → (es : List Edge) → are_there under es ≡ true
        → are_there over (renamed (Slot l) (next_temp under) es) ≡ true
    moved_at l typed es all =
        renamed_there under over (Slot l) (next_temp under)
        (λ n h _. by_out n h (same_node n (Slot l)) refl)
        (λ n h _. by_in n h (same_node n (Slot l)) refl)
        es
        (all_weaker (edge_is_there under) (is_free_of under (next_temp under))
        (λ e t.
        let was = there_parts under e t in
        and_from (edge_is_there under e) (not (same_node e.from (next_temp under)) && not (same_node e.to (next_temp under))) t
        (and_from (not (same_node e.from (next_temp under))) (not (same_node e.to (next_temp under)))
        (ap not (apart_next e.from (outs_under e.from was.out))) (ap not (apart_next e.to (ins_under e.to was.into)))))
        es all)
      where
        by_out : (n : Node) → leads_out under n ≡ true → (b : Bool) → same_node n (Slot l) ≡ b → leads_out over (cond b (next_temp under) n) ≡ true
        by_out n h true is =
            ap (leads_out over) next_is ∙ has_over (y ∷ []) rest is_mutable_token 0
            ∙ local_type_is is_mutable_token under l y typed (ap (leads_out under) (sym (same_node-is n (Slot l) is)) ∙ h)
        by_out n h false is = outs_stay n h

        by_in : (n : Node) → leads_in under n ≡ true → (b : Bool) → same_node n (Slot l) ≡ b → leads_in over (cond b (next_temp under) n) ≡ true
        by_in n h true is = into_next
        by_in n h false is = ins_stay n h

    -- the other way round
    top_of : top_temp over ≡ Temp (length rest + 0)
    top_of = ap Temp (omega arith)

    pub stored_at : (l : ℕ) → local_type m d l ≡ Some y → (es : List Edge) → are_there over es ≡ true
        → are_there under (renamed (top_temp over) (Slot l) (without (Slot l) es)) ≡ true
    stored_at l typed es all =
        renamed_there over under (top_temp over) (Slot l)
        (λ n h _. by_out n h (same_node n (top_temp over)) refl)
        (λ n h _. by_in n h (same_node n (top_temp over)) refl)
        (without (Slot l) es)
        (each_filter (λ e. not (same_node e.from (Slot l)) && not (same_node e.to (Slot l))) (edge_is_there over)
        (is_free_of over (Slot l))
        (λ e free t. and_from (edge_is_there over e) (not (same_node e.from (Slot l)) && not (same_node e.to (Slot l))) t free)
        es all)
      where
        by_out : (n : Node) → leads_out over n ≡ true → (b : Bool) → same_node n (top_temp over) ≡ b → leads_out under (cond b (Slot l) n) ≡ true
        by_out n h true is =
            local_is is_mutable_token under l y typed
            (sym (has_over (y ∷ []) rest is_mutable_token 0) ∙ ap (leads_out over) (sym top_of)
            ∙ ap (leads_out over) (sym (same_node-is n (top_temp over) is)) ∙ h)
        by_out n h false other = out_stays m d (y ∷ []) [] rest n h (out_under m d (y ∷ []) [] rest 0 (only_one y) n h (ap (same_node n) (sym top_of) ∙ other))

        by_in : (n : Node) → leads_in over n ≡ true → (b : Bool) → same_node n (top_temp over) ≡ b → leads_in under (cond b (Slot l) n) ≡ true
        by_in n h true is = local_is is_reference_token under l y typed is_ref
        by_in n h false other = in_stays m d (y ∷ []) [] rest n h (in_under m d (y ∷ []) [] rest 0 (only_one y) n h (ap (same_node n) (sym top_of) ∙ other))
