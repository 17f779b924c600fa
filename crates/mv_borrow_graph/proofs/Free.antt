-- What has to be free where a function is called, asked at once.
use Rattle.std.specs.Prelude.{not, map, if◌then◌else◌}
use Rattle.std.specs.Option.{option_map_or}
use Rattle.std.specs.List.{list_all, list_any}
use Rattle.std.proofs.Common.{◌≡◌, ℕ, Bool, true, false, ◌&&◌, ◌||◌, ◌==◌, List, [], ◌∷◌, ◌++◌, ◌+◌, ◌-◌, ◌<◌, ◌≤◌, length, slice_get, Option, None, Some, refl, sym, ap, ◌∙◌, arith, suc, zero, ◌≢◌, suc-ne-zero, set, replicate, subst, ne_of_gt, lt_of_lt_of_le}
use Rattle.std.proofs.lemmas.Bool.{eq-eqb, eqb-true, false_from_ne_true, or_parts}
use Rattle.std.proofs.lemmas.List.Folds.{list_all-append, list_all-map, list_any-append}
use Rattle.std.proofs.Math.Bool.{or-true, or-false}
use Rattle.std.proofs.Math.Dec.{eqb-zero-suc, eqb-suc-zero, eqb-suc-suc}
use Rattle.mv_move_types.specs.declared.token.Token.{Token}
use Rattle.mv_move_types.specs.declared.borrow.Node.{Node}
use Rattle.mv_move_types.specs.declared.borrow.Node.TheVariants.{Slot, Own, Glob, Temp}
use Rattle.mv_edges.specs.Edges.{Edge, same_node, out_of}
use Rattle.mv_ways.specs.Between.{any_between}
use Rattle.mv_edges.proofs.Any.{any_at_all, list_any-filter}
use Rattle.mv_certificate_rules.specs.BorrowRules.{is_mutable_token, no_edge_out, reference_nodes}
use Rattle.mv_borrow_graph.specs.Calls.{AreMarks, is_marked, needed_free}

-- ---- some edge leads out of one of the nodes, or each of them is free

none_of : {A : Type 0} (xs : List A) → list_any (λ x. false) xs ≡ false
none_of [] = refl
none_of (x ∷ xs) = none_of xs

either_or : (a b c d : Bool) → ((a || b) && true || (c || d)) ≡ ((a && true || c) || (b && true || d))
either_or true b c d = refl
either_or false true true d = refl
either_or false true false d = refl
either_or false false c d = refl

either_of : {A : Type 0} (p q : A → Bool) (xs : List A) → list_any (λ x. (p x || q x) && true) xs ≡ (list_any (λ x. p x && true) xs || list_any (λ x. q x && true) xs)
either_of p q [] = refl
either_of p q (x ∷ xs) =
    ap (λ b. (p x || q x) && true || b) (either_of p q xs) ∙ either_or (p x) (q x) (list_any (λ y. p y && true) xs) (list_any (λ y. q y && true) xs)

not_both : (a b : Bool) → (not a || not b) ≡ not (a && b)
not_both true b = refl
not_both false b = refl

not_asked : (b : Bool) → not (not b) ≡ b
not_asked true = refl
not_asked false = refl

module _ (s : List Edge) where
  out_of_one : (n : Node) → list_any (λ e. same_node e.from n && true) s ≡ not (no_edge_out n s)
  out_of_one n = sym (list_any-filter (λ e. true) (λ e. same_node e.from n) s) ∙ sym (any_at_all (out_of n s))

  -- no edge leads out of a node
  pub free_of_one : (n : Node) (any : Bool) → any ≡ any_between (λ m. same_node m n) None (λ m. true) s → not any ≡ no_edge_out n s
  free_of_one n any is = ap not (is ∙ out_of_one n) ∙ not_asked (no_edge_out n s)

  out_of_any : (ns : List Node) → list_any (λ e. list_any (same_node e.from) ns && true) s ≡ not (list_all (λ n. no_edge_out n s) ns)
  out_of_any [] = none_of s
  out_of_any (n ∷ ns) =
      either_of (λ e. same_node e.from n) (λ e. list_any (same_node e.from) ns) s
      ∙ (λ i. out_of_one n i || out_of_any ns i) ∙ not_both (no_edge_out n s) (list_all (λ m. no_edge_out m s) ns)

  -- no edge leads out of any of some nodes
  pub free_at_once : (ns : List Node) (any : Bool) → any ≡ any_between (λ n. list_any (same_node n) ns) None (λ n. true) s → not any ≡ list_all (λ n. no_edge_out n s) ns
  free_at_once ns any is = ap not (is ∙ out_of_any ns) ∙ not_asked (list_all (λ n. no_edge_out n s) ns)

  -- of none it doesn't
  pub free_of_none : (ns : List Node) → ns ≡ [] → true ≡ list_all (λ n. no_edge_out n s) ns
  free_of_none ns none = sym (ap (list_all (λ n. no_edge_out n s)) none)

-- ---- which nodes are needed

module _ (q : Node → Bool) (n : Node) (ns : List Node) where
  -- one node more that doesn't pass, if it is there
  passed : (b : Bool) → q n ≡ false → list_any q ((if b then (n ∷ []) else []) ++ ns) ≡ list_any q ns
  passed true other = ap (λ c. c || list_any q ns) other
  passed false other = refl

  -- one that does, where no other does
  found : (b : Bool) → q n ≡ true → list_any q ns ≡ false → list_any q ((if b then (n ∷ []) else []) ++ ns) ≡ b
  found true same rest = ap (λ c. c || list_any q ns) same
  found false same rest = rest

-- what is no operand is no argument
no_operand : (n : Node) → ((k : ℕ) → same_node n (Temp k) ≡ false) → (place : ℕ) (ps : List Token) → list_any (same_node n) (reference_nodes is_mutable_token place ps) ≡ false
no_operand n other place [] = refl
no_operand n other place (t ∷ ts) =
    passed (same_node n) (Temp place) (reference_nodes is_mutable_token (place + 1) ts) (is_mutable_token t) (other place) ∙ no_operand n other (place + 1) ts

other_place : (k place : ℕ) → place ≢ k → (k == place) ≡ false
other_place k place h = false_from_ne_true (k == place) (λ e. h (sym (eqb-true k place e)))

-- no argument stands below the first
pub no_argument : (k place : ℕ) (ps : List Token) → k < place → list_any (same_node (Temp k)) (reference_nodes is_mutable_token place ps) ≡ false
no_argument k place [] h = refl
no_argument k place (t ∷ ts) h =
    passed (same_node (Temp k)) (Temp place) (reference_nodes is_mutable_token (place + 1) ts) (is_mutable_token t) (other_place k place (omega (arith, h)))
    ∙ no_argument k (place + 1) ts (omega (arith, h))

-- what stands at a place from the first on is the argument there
argument_there : (k place : ℕ) (ps : List Token) (i : ℕ) → k ≡ place + i
    → list_any (same_node (Temp k)) (reference_nodes is_mutable_token place ps) ≡ option_map_or is_mutable_token (slice_get ps i) false
argument_there k place [] i h = refl
argument_there k place (t ∷ ts) zero h =
    found (same_node (Temp k)) (Temp place) (reference_nodes is_mutable_token (place + 1) ts) (is_mutable_token t) (eq-eqb k place (omega (arith, h))) (no_argument k (place + 1) ts (omega (arith, h)))
argument_there k place (t ∷ ts) (suc i) h =
    passed (same_node (Temp k)) (Temp place) (reference_nodes is_mutable_token (place + 1) ts) (is_mutable_token t) (other_place k place (omega (arith, h)))
    ∙ argument_there k (place + 1) ts i (omega (arith, h))

globals_there : (u : ℕ) (ts : List ℕ) → list_any (same_node (Glob u)) (map (λ t. Glob t) ts) ≡ list_any (λ t. u == t) ts
globals_there u [] = refl
globals_there u (t ∷ ts) = ap (λ b. u == t || b) (globals_there u ts)

no_global : (n : Node) → ((t : ℕ) → same_node n (Glob t) ≡ false) → (ts : List ℕ) → list_any (same_node n) (map (λ t. Glob t) ts) ≡ false
no_global n other [] = refl
no_global n other (t ∷ ts) = (λ i. other t i || no_global n other ts i)

module _ (place : ℕ) (ps : List Token) (ts : List ℕ) where
  abbrev arguments : List Node
  arguments = reference_nodes is_mutable_token place ps

  either_kind : (n : Node) → list_any (same_node n) (needed_free place ps ts) ≡ (list_any (same_node n) arguments || list_any (same_node n) (map (λ t. Glob t) ts))
  either_kind n = list_any-append (same_node n) arguments (map (λ t. Glob t) ts)

  pub operand_needed : (k : ℕ) → list_any (same_node (Temp k)) (needed_free place ps ts) ≡ list_any (same_node (Temp k)) (reference_nodes is_mutable_token place ps)
  operand_needed k =
      either_kind (Temp k) ∙ ap (λ b. list_any (same_node (Temp k)) arguments || b) (no_global (Temp k) (λ t. refl) ts) ∙ or-false (list_any (same_node (Temp k)) arguments)

  pub global_needed : (u : ℕ) → list_any (same_node (Glob u)) (needed_free place ps ts) ≡ list_any (λ t. u == t) ts
  global_needed u = either_kind (Glob u) ∙ (λ i. no_operand (Glob u) (λ k. refl) place ps i || globals_there u ts i)

  pub slot_not_needed : (l : ℕ) → list_any (same_node (Slot l)) (needed_free place ps ts) ≡ false
  slot_not_needed l = either_kind (Slot l) ∙ (λ i. no_operand (Slot l) (λ k. refl) place ps i || no_global (Slot l) (λ t. refl) ts i)

  pub own_not_needed : (l : ℕ) → list_any (same_node (Own l)) (needed_free place ps ts) ≡ false
  own_not_needed l = either_kind (Own l) ∙ (λ i. no_operand (Own l) (λ k. refl) place ps i || no_global (Own l) (λ t. refl) ts i)

  pub both_kinds : (s : List Edge) → list_all (λ n. no_edge_out n s) (needed_free place ps ts)
      ≡ (list_all (λ n. no_edge_out n s) (reference_nodes is_mutable_token place ps) && list_all (λ t. no_edge_out (Glob t) s) ts)
  both_kinds s =
      list_all-append (λ n. no_edge_out n s) arguments (map (λ t. Glob t) ts)
      ∙ ap (λ b. list_all (λ n. no_edge_out n s) arguments && b) (list_all-map (λ n. no_edge_out n s) (λ t. Glob t) ts)

module _ (k place i : ℕ) (ps : List Token) (low : place ≤ k) (at : i ≡ k - place) where
  there : list_any (same_node (Temp k)) (reference_nodes is_mutable_token place ps) ≡ option_map_or is_mutable_token (slice_get ps i) false
  there = argument_there k place ps i (omega (arith, low, at))

  -- what stands at a place from the first on is the argument there, if it is mutable
  pub argument_at : (t : Token) → slice_get ps i ≡ Some t → list_any (same_node (Temp k)) (reference_nodes is_mutable_token place ps) ≡ is_mutable_token t
  argument_at t is = there ∙ ap (λ (o : Option Token). option_map_or is_mutable_token o false) is

  pub none_at : slice_get ps i ≡ None → list_any (same_node (Temp k)) (reference_nodes is_mutable_token place ps) ≡ false
  none_at is = there ∙ ap (λ (o : Option Token). option_map_or is_mutable_token o false) is

no_mutable : (ps : List Token) (place : ℕ) → list_any is_mutable_token ps ≡ false → reference_nodes is_mutable_token place ps ≡ []
no_mutable [] place h = refl
no_mutable (t ∷ ts) place h =
    let parts = or_parts (is_mutable_token t) (list_any is_mutable_token ts) h in
    (λ i. (if parts.0 i then (Temp place ∷ []) else []) ++ no_mutable ts (place + 1) parts.1 i)

-- where no argument is mutable, and nothing is acquired, there are none
pub none_needed : (place : ℕ) (ps : List Token) (ts : List ℕ) → list_any is_mutable_token ps ≡ false → length ts ≡ 0 → needed_free place ps ts ≡ []
none_needed place ps [] h e = ap (λ ns. ns ++ []) (no_mutable ps place h)
none_needed place ps (t ∷ ts) h e = absurd (suc-ne-zero (length ts) e)

-- ---- marks of globals

-- a mark is set at one place
pub marked_set : (marks : List Bool) (x y : ℕ) → x < length marks → is_marked (set marks x true) y ≡ (is_marked marks y || y == x)
marked_set [] x y h = absurd (omega arith)
marked_set (b ∷ bs) zero zero h = sym (or-true b)
marked_set (b ∷ bs) zero (suc y) h = sym (ap (λ e. is_marked bs y || e) (eqb-suc-zero y) ∙ or-false (is_marked bs y))
marked_set (b ∷ bs) (suc x) zero h = sym (ap (λ e. b || e) (eqb-zero-suc x) ∙ or-false b)
marked_set (b ∷ bs) (suc x) (suc y) h = marked_set bs x y (omega arith) ∙ sym (ap (λ e. is_marked bs y || e) (eqb-suc-suc y x))

-- where the marks don't go so far, nothing is changed
pub not_marked : (marks : List Bool) (x y : ℕ) → length marks ≤ x → y < length marks → is_marked marks y ≡ (is_marked marks y || y == x)
not_marked marks x y far h = sym (ap (λ b. is_marked marks y || b) (other_place y x (ne_of_gt (lt_of_lt_of_le h far))) ∙ or-false (is_marked marks y))

none_marked : (k y : ℕ) → is_marked (replicate k false) y ≡ false
none_marked zero y = refl
none_marked (suc k) zero = refl
none_marked (suc k) (suc y) = none_marked k y

-- what is marked where nothing was
pub marks_made : (k : ℕ) (new : List Bool) (ts : List ℕ) → length new ≡ length (replicate k false)
    → ((y : ℕ) → y < length (replicate k false) → is_marked new y ≡ (is_marked (replicate k false) y || list_any (λ t. y == t) ts)) → AreMarks new ts
marks_made k new ts count are y h = are y (subst (λ n. y < n) count h) ∙ ap (λ b. b || list_any (λ t. y == t) ts) (none_marked k y)
