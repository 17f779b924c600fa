-- A Call and a Ret keep the chain of frames.
use Rattle.mv_soundness.proofs.Borrows.Common.{refl, sym, ◌≡◌, ℕ, List, [], ◌∷◌, true, false, inl, inr, ap, subst, zero, suc, ◌++◌, map, length, Option, Some, None, ◌≤◌, ◌+◌, ◌-◌}
use Rattle.mv_soundness.proofs.Borrows.Common.{reverse, Bool, not, ◌∙◌, ap₂, arith, and_from, eq-eqb, and_parts, eqb-true, not-true, eqb_tells, reverse_onto, length-map, length-append}
use Rattle.mv_soundness.proofs.Borrows.Common.{length-reverse, map-append, same_Some, list_any, list_all, ◌==◌, slice_get, replicate, ◌&&◌, ◌||◌, Module, FunctionDefinition, Node, Own}
use Rattle.mv_soundness.proofs.Borrows.Common.{Glob, Temp, Token, Plain, ReferenceTo, MutableReferenceTo, reference_of, Frame, Reference, Value, layer, chain_steps, TheNode, AtOwn}
use Rattle.mv_soundness.proofs.Borrows.Common.{AtGlob, AtTemp, TheRef, Live, TheValue, seen_frame, local_ref, Activation, refs_among, Defined, TheLabel, Chain, Layer, no_edge_out}
use Rattle.mv_soundness.proofs.Borrows.Common.{is_mutable, return_edges, is_mutable_token, is_reference_token, call_edges, is_temp, is_root_node, Edge, same_node, without, inherited}
use Rattle.mv_soundness.proofs.Borrows.Common.{Types, of_call, Point, map-turned, Seen, token_kind, operand_kind, Fits, IsCall, home_of, defined, local_of, node_of, Member, edges_of}
use Rattle.mv_soundness.proofs.Borrows.Common.{held_as, activation, acquires_of, layer_of, operands_of, kind_at, label_from, alone, AmongNodes, on_bind}
use Rattle.std.specs.Prelude.{if◌then◌else◌}
use Rattle.std.proofs.{lemmas.Bool.ne_eqb, lemmas.List.length-drop, lemmas.List.take-append-drop, lemmas.List.reverse-reverse}
use Rattle.mv_move_types.specs.{Module.own_acquires, Tokens.same_tokens}
use Rattle.mv_edges.specs.Edges.{opened, without_each}
use Rattle.mv_certificate_rules.specs.BorrowRules.{reference_nodes, result_edges, opened_edges}
use Rattle.mv_borrow_graph.proofs.{Abstract.Terms.Places.opened as the_opened, Abstract.Terms.Covers.InList, Abstract.Terms.Rows.IsArgument, Abstract.Terms.Rows.after_call, Abstract.Terms.Lists.first_locals}
use Rattle.mv_borrow_graph.proofs.{Abstract.Terms.Lists.Lent, Abstract.Terms.Lists.GivenAt, Abstract.Terms.Stack.Calls, Abstract.Terms.Stack.Homed}
use Rattle.mv_type_rules.specs.TypeRules.{taken}
use Rattle.mv_borrow_graph.proofs.{Abstract.Calls.passed_at, Abstract.Run.ByRet, Abstract.Run.ByCall}
use Rattle.mv_soundness.proofs.Borrows.View.{value_of}
use Rattle.mv_soundness.proofs.Borrows.Edges.{none_any, free_out, then-some, member_filter, member_flat, member_left, member_right, node-not, node_of-inj, Included}
use Rattle.mv_soundness.proofs.{Borrows.EdgeRows.inherited_in, Borrows.EdgeRows.away, Borrows.Kept.below-from, Borrows.Lists.place_get, Borrows.Lists.place-reverse}
use Rattle.mv_soundness.proofs.{Borrows.Lists.stack-back}
use Rattle.mv_soundness.proofs.Borrows.Mutability.{kinds, kinds-length, kind-at, kind-mutable, kind-reference}
use Rattle.mv_bound_rules.proofs.Tokens.{lists_equal}
use Rattle.std.proofs.Common.{take, drop, append_assoc}

-- ---- lists

pub place-right : {A : Type 0} (xs ys : List A) (j : ℕ) (x : A) → place_get (xs ++ ys) (length ys + j) ≡ Some x → place_get xs j ≡ Some x
place-right [] ys j x h = absurd (too-far ys j x h)
  where
    too-far : {A : Type 0} (ys : List A) (j : ℕ) (x : A) → place_get ys (length ys + j) ≡ Some x → ⊥
    too-far [] j x h = cc
    too-far (y ∷ ys) j x h =
        elim (eqb_tells (suc (length ys) + j) (length ys)) [
          | inl t ↦ let e = t.1 in omega arith
          | inr t ↦ too-far ys (suc j) x (let e : suc (length ys) + j ≡ length ys + suc j = omega arith in subst (λ n. place_get ys n ≡ Some x) e (rw t.0 at h))
        ]
place-right (z ∷ xs) ys j x h =
    let long : length (xs ++ ys) ≡ length xs + length ys = length-append xs ys in
    elim (eqb_tells j (length xs)) [
      | inl t ↦ let d = t.1 in rw t.0 (rw (eq-eqb (length ys + j) (length (xs ++ ys)) (omega arith)) at h)
      | inr t ↦ let d = t.1 in rw t.0 (place-right xs ys j x (rw (ne_eqb (length ys + j) (length (xs ++ ys)) (λ z. d (omega arith))) at h))
    ]

plus-zero : (n : ℕ) → n + 0 ≡ n
plus-zero n = omega arith

plus-suc : (n j : ℕ) → n + 1 + j ≡ n + suc j
plus-suc n j = omega arith

-- the node of a parameter that passes the test
pub among-nodes : (test : Token → Bool) (base j : ℕ) (ts : List Token) (t : Token) → slice_get ts j ≡ Some t → test t ≡ true → AmongNodes (Temp (base + j)) (reference_nodes test base ts)
among-nodes test base j [] t h k = absurd cc
among-nodes test base zero (x ∷ ts) t h k =
    subst (λ b. AmongNodes (Temp (base + 0)) ((if b then (Temp base ∷ []) else []) ++ reference_nodes test (base + 1) ts)) (sym (ap test (same_Some x t h) ∙ k)) (inl (ap Temp (plus-zero base)))
among-nodes test base (suc j) (x ∷ ts) t h k =
    further (test x) (subst (λ n. AmongNodes (Temp n) (reference_nodes test (base + 1) ts)) (plus-suc base j) (among-nodes test (base + 1) j ts t h k))
  where
    further : (b : Bool) → AmongNodes (Temp (base + suc j)) (reference_nodes test (base + 1) ts)
        → AmongNodes (Temp (base + suc j)) ((if b then (Temp base ∷ []) else []) ++ reference_nodes test (base + 1) ts)
    further true a = inr a
    further false a = a

all-nodes : (test : Node → Bool) (ns : List Node) (n : Node) → list_all test ns ≡ true → AmongNodes n ns → test n ≡ true
all-nodes test [] n h a = absurd a
all-nodes test (x ∷ ns) n h (inl a) = ap test a ∙ (and_parts (test x) (list_all test ns) h).0
all-nodes test (x ∷ ns) n h (inr a) = all-nodes test ns n (and_parts (test x) (list_all test ns) h).1 a

pub all-numbers : (test : ℕ → Bool) (ns : List ℕ) (n : ℕ) → list_all test ns ≡ true → list_any (λ y. y == n) ns ≡ true → test n ≡ true
all-numbers test [] n h a = absurd cc
all-numbers test (x ∷ ns) n h a =
    elim (eqb_tells x n) [
      | inl t ↦ ap test (sym t.1) ∙ (and_parts (test x) (list_all test ns) h).0
      | inr t ↦ all-numbers test ns n (and_parts (test x) (list_all test ns) h).1 (rw t.0 at a)
    ]

-- every node of the parameters is an operand from the base up
pub from-base : (test : Token → Bool) (base : ℕ) (ts : List Token) (n : Node) → AmongNodes n (reference_nodes test base ts) → (k : ℕ) × (n ≡ Temp k) × (base ≤ k)
from-base test base [] n a = absurd a
from-base test base (t ∷ ts) n a = by_case (test t) a (λ b. from-base test (base + 1) ts n b)
  where
    weaker : (k : ℕ) × (n ≡ Temp k) × (base + 1 ≤ k) → (k : ℕ) × (n ≡ Temp k) × (base ≤ k)
    weaker (k, e, l) = (k, e, omega arith)

    by_case : (b : Bool) → AmongNodes n ((if b then (Temp base ∷ []) else []) ++ reference_nodes test (base + 1) ts)
        → (AmongNodes n (reference_nodes test (base + 1) ts) → (k : ℕ) × (n ≡ Temp k) × (base + 1 ≤ k)) → (k : ℕ) × (n ≡ Temp k) × (base ≤ k)
    by_case true (inl e) further = (base, e, omega arith)
    by_case true (inr b) further = weaker (further b)
    by_case false b further = weaker (further b)

pub without-all : (ns : List Node) (es : List Edge) (e : Edge) → ((n : Node) → AmongNodes n ns → (e.from ≡ n → ⊥) × (e.to ≡ n → ⊥)) → Member e es → Member e (without_each ns es)
without-all [] es e far m = m
without-all (n ∷ ns) es e far m =
    without-all ns (without n es) e (λ k a. far k (inr a))
    (member_filter (λ e. not (same_node e.from n) && not (same_node e.to n)) e es
    (away (same_node e.from n) (same_node e.to n) (node-not e.from n (far n (inl refl)).0) (node-not e.to n (far n (inl refl)).1)) m)

opened-in : (ns : List Node) (new n : Node) (es : List Edge) (e : Edge) → AmongNodes n ns → Member e es → e.to ≡ n
    → Member (record { from = e.from; label = opened e.label; to = new }) (opened_edges ns new es)
opened-in ns new n es e a m to =
    member_flat (λ n. inherited opened n new es) (record { from = e.from; label = opened e.label; to = new }) n ns a (inherited_in opened n new e es m to)

pub result-in : (mutable all : List Node) (k i : ℕ) (ts : List Token) (t : Token) (es : List Edge) (e : Edge) (n : Node) → slice_get ts i ≡ Some t → is_reference_token t ≡ true
    → AmongNodes n all → (is_mutable_token t ≡ true → AmongNodes n mutable) → Member e es → e.to ≡ n
    → Member (record { from = e.from; label = opened e.label; to = Temp (k + i) }) (result_edges mutable all k ts es)
result-in mutable all k i [] t es e n at ref a b m to = absurd cc
result-in mutable all k zero (x ∷ ts) t es e n at ref a b m to = first x (same_Some x t at)
  where
    first : (x : Token) → x ≡ t → Member (record { from = e.from; label = opened e.label; to = Temp (k + 0) }) (result_edges mutable all k (x ∷ ts) es)
    first (Plain v) h = let z : false ≡ true = ap is_reference_token h ∙ ref in absurd cc
    first (ReferenceTo v) h =
        subst (λ n. Member (record { from = e.from; label = opened e.label; to = Temp n }) (result_edges mutable all k (ReferenceTo v ∷ ts) es)) (sym (plus-zero k))
        (member_left _ (opened_edges all (Temp k) es) (result_edges mutable all (k + 1) ts es) (opened-in all (Temp k) n es e a m to))
    first (MutableReferenceTo v) h =
        subst (λ n. Member (record { from = e.from; label = opened e.label; to = Temp n }) (result_edges mutable all k (MutableReferenceTo v ∷ ts) es)) (sym (plus-zero k))
        (member_left _ (opened_edges mutable (Temp k) es) (result_edges mutable all (k + 1) ts es) (opened-in mutable (Temp k) n es e (b (sym (ap is_mutable_token h))) m to))
result-in mutable all k (suc i) (x ∷ ts) t es e n at ref a b m to =
    further x (subst (λ n. Member (record { from = e.from; label = opened e.label; to = Temp n }) (result_edges mutable all (k + 1) ts es)) (plus-suc k i)
    (result-in mutable all (k + 1) i ts t es e n at ref a b m to))
  where
    further : (x : Token) → Member (record { from = e.from; label = opened e.label; to = Temp (k + suc i) }) (result_edges mutable all (k + 1) ts es)
        → Member (record { from = e.from; label = opened e.label; to = Temp (k + suc i) }) (result_edges mutable all k (x ∷ ts) es)
    further (Plain v) q = q
    further (ReferenceTo v) q = member_right _ (opened_edges all (Temp k) es) (result_edges mutable all (k + 1) ts es) q
    further (MutableReferenceTo v) q = member_right _ (opened_edges mutable (Temp k) es) (result_edges mutable all (k + 1) ts es) q

first-is : (xs : List TheValue) (rest : List (Option TheValue)) → first_locals xs rest ≡ map Some (reverse xs) ++ rest
first-is [] rest = refl
first-is (x ∷ xs) rest =
    first-is xs (Some x ∷ rest) ∙ sym (append_assoc (map Some (reverse xs)) (Some x ∷ []) rest)
    ∙ ap (λ l. l ++ rest) (sym (map-append Some (reverse xs) (x ∷ [])) ∙ ap (map Some) (sym (reverse_onto xs x [])))

map-reverse : (xs : List (Option Reference)) → reverse (map held_as (reverse xs)) ≡ map held_as xs
map-reverse xs = ap reverse (map-turned held_as xs) ∙ reverse-reverse (map held_as xs)

given-locals : (vs : List Value) (n : ℕ) → map local_of (map Some vs ++ replicate n None) ≡ map Some (map held_as (map reference_of vs)) ++ map local_of (replicate n None)
given-locals [] n = refl
given-locals (v ∷ vs) n = ap (λ l. Some (value_of v) ∷ l) (given-locals vs n)

none-local : (n i : ℕ) (r : TheRef) → local_ref (map local_of (replicate n None)) i ≡ Some r → ⊥
none-local (suc n) (suc i) r h = none-local n i r h
none-local n i r h = cc

-- a frame's acquired structs are of its own module
pub homed : (acquires : List ℕ) (v : Seen) → Homed home_of (seen_frame (activation acquires v))
homed acquires v t h = eqb-true t.place v.frame.function.place (and_parts (t.place == v.frame.function.place) (list_any (λ y. y == t.index) acquires) h).0

-- a frame that waits at a Call, and the one above it
module _ (depends : ℕ → ℕ → Type 0) (home : Module) (function : FunctionDefinition) (w : Seen) (upper : Frame) (acquires : List ℕ) (types types' : Types) (es es' : List Edge)
    (link : IsCall depends home function w.frame upper acquires) (lent_is : w.lent ≡ upper.entered_with)
    (fits : Fits (record { home = home; function = function; types = types }) w)
    (need : call_edges (record { home = home; function = function; types = types }) link.index es ≡ Some es')
    (typing : of_call home link.index types ≡ Some types')
  where
    abbrev pw : Point
    pw = record { home = home; function = function; types = types }

    abbrev pub count : ℕ
    count = length link.parameters

    abbrev pub base : ℕ
    base = length types - count

    abbrev pub height : ℕ
    height = length (map held_as (map reference_of w.frame.stack))

    abbrev place : ℕ
    place = w.frame.function.place

    abbrev act_w : Activation
    act_w = activation function.acquires w

    needs : ((list_all (λ n. no_edge_out n es) (reference_nodes is_mutable_token base link.parameters) && list_all (λ t. no_edge_out (Glob t) es) (own_acquires home link.index)) ≡ true)
        × (es' ≡ without_each (reference_nodes is_reference_token base link.parameters) es
        ++ result_edges (reference_nodes is_mutable_token base link.parameters) (reference_nodes is_reference_token base link.parameters) base link.results es)
    needs = then-some _ _ es' (rw (link.is_handle, link.is_parameters, link.is_results) at need)

    typed-call : same_tokens (take count types) (reverse link.parameters) ≡ true
    typed-call =
        on_bind (taken link.parameters types) (λ below. Some (reverse link.results ++ below)) types' (rw (link.is_handle, link.is_parameters, link.is_results) at typing) (λ below below_is e.
        (then-some (same_tokens (take count types) (reverse link.parameters)) (drop count types) below below_is).0)

    long : length types ≡ count + length w.frame.stack
    long =
        kinds-length types (operands_of w) fits.stack ∙ length-append (reverse w.lent) (map reference_of w.frame.stack)
        ∙ ap₂ (λ (a b : ℕ). a + b) (length-reverse w.lent ∙ ap length lent_is ∙ link.passed) (length-map w.frame.stack reference_of)

    height-is : height ≡ length w.frame.stack
    height-is = length-map (map reference_of w.frame.stack) held_as ∙ length-map w.frame.stack reference_of

    pub base-is : base ≡ height
    base-is = let a : length types ≡ count + length w.frame.stack = long in let b : height ≡ length w.frame.stack = height-is in omega (arith, a, b)

    length-rest : length (drop count types) ≡ base
    length-rest = length-drop count types

    -- an argument that is a reference stands at a parameter that is one
    pub arg-at : (k : ℕ) (g : TheRef) → height ≤ k → Live (seen_frame act_w) (AtTemp k) g
        → (j : ℕ) × (t : Token) × (k ≡ base + j) × (slice_get link.parameters j ≡ Some t) × (token_kind t ≡ Some g.mutable)
    arg-at k g above live =
        let r = stack-back (operands_of w) k g live in
        let t = kind-at types (operands_of w) fits.stack k (Some r.0) r.1 in
        let same : base ≡ height = base-is in
        let j : (j : ℕ) × (k ≡ base + j) = (k - base, omega (arith, same, above)) in
        let here = place-right (take count types) (drop count types) j.0 t.0
        (subst (λ (l : List Token). place_get l (length (drop count types) + j.0) ≡ Some t.0) (sym (take-append-drop count types))
        (subst (λ n. place_get types n ≡ Some t.0) (j.1 ∙ ap (λ (n : ℕ). n + j.0) (sym length-rest)) t.1)) in
        let there = subst (λ (l : List Token). place_get l j.0 ≡ Some t.0) (lists_equal (take count types) (reverse link.parameters) typed-call) here in (
          j.0,
          t.0,
          j.1,
          ap (λ (l : List Token). slice_get l j.0) (sym (reverse-reverse link.parameters)) ∙ place-reverse (reverse link.parameters) j.0 ∙ there,
          t.2 ∙ ap (λ (q : TheRef). Some q.mutable) (sym r.2),
        )

    pub calls-hold : (eu : List Edge) → Calls depends (layer_of function.acquires w es) (layer_of acquires (record { frame = upper; lent = [] }) eu) (IsArgument height)
    calls-hold eu = record {
      passed = λ g i. passed_at act_w (map held_as (reverse w.lent)) (map held_as (map reference_of w.frame.stack))
          (map-append held_as (reverse w.lent) (map reference_of w.frame.stack)) g (subst (λ l. InList g (refs_among (map held_as (reverse l)))) (sym lent_is) i);
      free = λ n g x c is live mutable e. at_argument n g x c is live mutable e;
      store_free = λ same t acq. at_store same t (and_parts (t.place == upper.function.place) (list_any (λ y. y == t.index) acquires) acq);
      later = link.later;
      leads_on = link.leads;
    }
      where
        at_argument : (n : TheNode) (g : TheRef) (x : TheLabel) (c : TheNode) → IsArgument height n → Live (seen_frame act_w) n g → g.mutable ≡ true → edges_of place es n x c → ⊥
        at_argument n g x c (k, is, above) live mutable e =
            let a = arg-at k g above (subst (λ m. Live (seen_frame act_w) m g) is live) in
            let node = among-nodes is_mutable_token base a.0 link.parameters a.1 a.3 (kind-mutable a.1 g.mutable a.4 ∙ mutable) in
            free_out place (Temp (base + a.0)) es (all-nodes (λ n. no_edge_out n es) (reference_nodes is_mutable_token base link.parameters) (Temp (base + a.0)) (and_parts _ _ needs.0).0 node) x c
            (subst (λ m. edges_of place es m x c) (is ∙ ap AtTemp a.2) e)

        at_store : place ≡ upper.function.place → (t : Defined) → ((t.place == upper.function.place) ≡ true) × (list_any (λ y. y == t.index) acquires ≡ true)
            → (acquires_of place function.acquires t ≡ true) × ((x : TheLabel) (c : TheNode) → edges_of place es (AtGlob t) x c → ⊥)
        at_store same t (here, acq) =
            let own : list_any (λ y. y == t.index) (own_acquires home link.index) ≡ true = ap (list_any (λ y. y == t.index)) (link.own same) ∙ acq in
            let home_is : t.place ≡ place = eqb-true t.place upper.function.place here ∙ sym same in (
              and_from (t.place == place) (list_any (λ y. y == t.index) function.acquires) (eq-eqb t.place place home_is) (link.acquired t.index own),
              λ x c e. free_out place (Glob t.index) es (all-numbers (λ t. no_edge_out (Glob t) es) (own_acquires home link.index) t.index (and_parts _ _ needs.0).1 own) x c
                  (subst (λ (d : Defined). edges_of place es (AtGlob d) x c) (ap (λ (q : ℕ). defined q t.index) home_is) e),
            )

    open-label : (b : Bool) (path : List ℕ) → the_opened (label_from b path) ≡ label_from true path
    open-label true path = refl
    open-label false path = refl

    -- the caller's edges after the Ret include what the theory leaves
    pub return-in : (u : Activation) (result : ℕ → Bool)
        → ((i : ℕ) (r : TheRef) → Live (seen_frame u) (AtTemp i) r → (t : Token) × (slice_get link.results i ≡ Some t) × (token_kind t ≡ Some r.mutable))
        → ((i : ℕ) (r : TheRef) → Live (seen_frame u) (AtTemp i) r → result i ≡ r.mutable)
        → Included (after_call height (kind_at pw) result (Lent act_w) (GivenAt u) (edges_of place es)) (edges_of place es')
    return-in u result results typed p x c (no_p, inl (no_c, (e, m, from, on, to))) =
        subst (λ l. edges_of place l p x c) (sym needs.1) (
          e,
          member_left e (without_each (reference_nodes is_reference_token base link.parameters) es)
              (result_edges (reference_nodes is_mutable_token base link.parameters) (reference_nodes is_reference_token base link.parameters) base link.results es)
              (without-all (reference_nodes is_reference_token base link.parameters) es e far m),
          from,
          on,
          to,
        )
      where
        outside : (n d : Node) (q : TheNode) → (IsArgument height q → ⊥) → q ≡ node_of place d → AmongNodes n (reference_nodes is_reference_token base link.parameters) → d ≡ n → ⊥
        outside n d q far_off is a same = let b = from-base is_reference_token base link.parameters n a in far_off (b.0, is ∙ ap (node_of place) (same ∙ b.1), subst (λ n. n ≤ b.0) base-is b.2)

        far : (n : Node) → AmongNodes n (reference_nodes is_reference_token base link.parameters) → (e.from ≡ n → ⊥) × (e.to ≡ n → ⊥)
        far n a = (λ h. outside n e.from p no_p from a h, λ h. outside n e.to c no_c to a h)
    return-in u result results typed p x c (no_p, inr (i, c_is, (r, given), j, (k, j_is, above), (g, lent), mutable, y, (e, m, from, on, to), x_is)) =
        let a = arg-at k g above (subst (λ n. Live (seen_frame act_w) n g) j_is lent) in
        let t = results i r given in
        let e_to : e.to ≡ Temp (base + a.0) = node_of-inj place e.to (Temp (base + a.0)) (sym to ∙ j_is ∙ ap AtTemp a.2) in
        subst (λ l. edges_of place l p x c) (sym needs.1) (
          record { from = e.from; label = opened e.label; to = Temp (base + i) },
          member_right _ (without_each (reference_nodes is_reference_token base link.parameters) es)
              (result_edges (reference_nodes is_mutable_token base link.parameters) (reference_nodes is_reference_token base link.parameters) base link.results es)
              (result-in (reference_nodes is_mutable_token base link.parameters) (reference_nodes is_reference_token base link.parameters) base i link.results t.0 es e (Temp (base + a.0)) t.1
              (kind-reference t.0 r.mutable t.2) (among-nodes is_reference_token base a.0 link.parameters a.1 a.3 (kind-reference a.1 g.mutable a.4))
              (λ z. among-nodes is_mutable_token base a.0 link.parameters a.1 a.3 (kind-mutable a.1 g.mutable a.4
              ∙ sym (kinds pw function.acquires w fits j g lent) ∙ mutable (typed i r given ∙ sym (kind-mutable t.0 r.mutable t.2) ∙ z))) m e_to),
          from,
          x_is ∙ ap the_opened on ∙ open-label e.label.is_open e.label.path,
          c_is ∙ ap (λ (n : ℕ). AtTemp (n + i)) (sym base-is),
        )

    module _ (through : (a b c : ℕ) → depends a b → depends b c → depends a c) (no_cycle : (a : ℕ) → depends a a → ⊥) (rest : List Layer) where
      -- a Call: the new frame stands above the caller, which is as it was with its arguments on its stack
      pub call-kept : (eu : List Edge) (arguments : List Value) (n : ℕ) → upper.locals ≡ map Some arguments ++ replicate n None → upper.stack ≡ [] → upper.entered_with ≡ map reference_of arguments
          → Chain depends home_of (layer_of function.acquires w es ∷ rest)
          → Chain depends home_of (layer_of acquires (alone upper) eu ∷ (layer_of function.acquires w es ∷ rest))
      call-kept eu arguments n locals stack entered stands =
          chain_steps depends home_of through no_cycle _ _
          (ByCall act_w (activation acquires (alone upper)) (edges_of place es) (edges_of upper.function.place eu) (map held_as (reverse w.lent)) (map held_as (map reference_of w.frame.stack))
          (map local_of (replicate n None)) rest (map-append held_as (reverse w.lent) (map reference_of w.frame.stack))
          (ap (map local_of) locals ∙ given-locals arguments n ∙ ap (λ l. map Some (map held_as l) ++ map local_of (replicate n None)) (sym entered ∙ sym lent_is)
          ∙ ap (λ l. map Some l ++ map local_of (replicate n None)) (sym (map-reverse w.lent)) ∙ sym (first-is (map held_as (reverse w.lent)) (map local_of (replicate n None))))
          (ap (λ (s : List Value). map held_as (map reference_of s)) stack) (ap (λ l. refs_among (map held_as (reverse l))) (sym lent_is)) (none-local n)
          (homed acquires (alone upper)) (calls-hold eu)) stands

      -- a Ret: the caller goes on with the results in place of its arguments
      pub return-kept : (eu : List Edge) (pu : Point) → Fits pu (alone upper) → return_edges pu eu ≡ Some eu
          → map token_kind (reverse link.results) ≡ map operand_kind (map reference_of upper.stack)
          → Chain depends home_of (layer_of acquires (alone upper) eu ∷ (layer_of function.acquires w es ∷ rest))
          → Chain depends home_of (layer_of function.acquires (alone (record (w.frame) { stack = upper.stack ++ w.frame.stack; at = w.frame.at + 1 })) es' ∷ rest)
      return-kept eu pu fits_u free results stands =
          subst (λ (l : List TheValue). Chain depends home_of (layer (record act_w { stack = l }) (edges_of place es') ∷ rest))
          (sym (map-append held_as (map reference_of upper.stack) (map reference_of w.frame.stack)) ∙ ap (map held_as) (sym (map-append reference_of upper.stack w.frame.stack)))
          (chain_steps depends home_of through no_cycle _ _
          (ByRet act_w act_u (edges_of place es) (edges_of upper.function.place eu) (edges_of place es') (map held_as (reverse w.lent)) (map held_as (map reference_of w.frame.stack))
          (kind_at pw) result rest (map-append held_as (reverse w.lent) (map reference_of w.frame.stack)) (kinds pw function.acquires w fits) typed no_own no_glob no_pair (calls-hold eu)
          (below-from _ _ (return-in act_u result at_results typed))) stands)
        where
          act_u : Activation
          act_u = activation acquires (alone upper)

          result : ℕ → Bool
          result i = is_mutable pu (Temp i)

          typed : (i : ℕ) (r : TheRef) → Live (seen_frame act_u) (AtTemp i) r → result i ≡ r.mutable
          typed i r live = kinds pu acquires (alone upper) fits_u (AtTemp i) r live

          no_edge : (e : Edge) → Member e eu → (is_temp e.to && (is_root_node e.from || is_temp e.from && is_mutable pu e.from)) ≡ true → ⊥
          no_edge e m k = none_any (λ e. is_temp e.to && (is_root_node e.from || is_temp e.from && is_mutable pu e.from)) eu (not-true _ (then-some _ eu eu free).0) e m k

          no_own : (l i : ℕ) (x : TheLabel) → edges_of upper.function.place eu (AtOwn l) x (AtTemp i) → ⊥
          no_own l i x (e, m, from, on, to) =
              no_edge e m (subst (λ (n : Node). (is_temp n && (is_root_node e.from || is_temp e.from && is_mutable pu e.from)) ≡ true) (node_of-inj upper.function.place (Temp i) e.to to)
              (subst (λ (n : Node). (is_root_node n || is_temp n && is_mutable pu n) ≡ true) (node_of-inj upper.function.place (Own l) e.from from) refl))

          no_glob : (t : Defined) (i : ℕ) (x : TheLabel) → edges_of upper.function.place eu (AtGlob t) x (AtTemp i) → ⊥
          no_glob t i x (e, m, from, on, to) =
              no_edge e m (subst (λ (n : Node). (is_temp n && (is_root_node e.from || is_temp e.from && is_mutable pu e.from)) ≡ true) (node_of-inj upper.function.place (Temp i) e.to to)
              (glob-root e.from from))
            where
              glob-root : (n : Node) → AtGlob t ≡ node_of upper.function.place n → (is_root_node n || is_temp n && is_mutable pu n) ≡ true
              glob-root (Glob l) h = refl
              glob-root n h = absurd cc

          no_pair : (i j : ℕ) (x : TheLabel) → result i ≡ true → edges_of upper.function.place eu (AtTemp i) x (AtTemp j) → ⊥
          no_pair i j x mutable (e, m, from, on, to) =
              no_edge e m (subst (λ (n : Node). (is_temp n && (is_root_node e.from || is_temp e.from && is_mutable pu e.from)) ≡ true) (node_of-inj upper.function.place (Temp j) e.to to)
              (subst (λ (n : Node). (is_root_node n || is_temp n && is_mutable pu n) ≡ true) (node_of-inj upper.function.place (Temp i) e.from from) mutable))

          at_results : (i : ℕ) (r : TheRef) → Live (seen_frame act_u) (AtTemp i) r → (t : Token) × (slice_get link.results i ≡ Some t) × (token_kind t ≡ Some r.mutable)
          at_results i r live =
              let q = stack-back (map reference_of upper.stack) i r live in
              let t = kind-at (reverse link.results) (map reference_of upper.stack) results i (Some q.0) q.1 in (
                t.0,
                ap (λ (l : List Token). slice_get l i) (sym (reverse-reverse link.results)) ∙ place-reverse (reverse link.results) i ∙ t.1,
                t.2 ∙ ap (λ (z : TheRef). Some z.mutable) (sym q.2),
              )
