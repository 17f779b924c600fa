-- Edges of a list, and what the tests on a list say of them.
use Rattle.mv_soundness.proofs.Borrows.Common.{refl, sym, ◌≡◌, ℕ, List, [], ◌∷◌, true, false, inl, inr, ap, suc, ◌++◌, map, length, Some, Bool, ◌∙◌, arith, eqb-true, not-true}
use Rattle.mv_soundness.proofs.Borrows.Common.{true≢false, cases_Bool, list_any, filter, flat_map, Node, Slot, Own, Glob, Temp, TheNode, Edges, Defined, TheLabel, no_edge_out}
use Rattle.mv_soundness.proofs.Borrows.Common.{is_mutable, no_mutable_from, Edge, same_node, out_of, Point, defined, node_of, Member, edges_of, kind_at, AmongNodes}
use Rattle.std.proofs.lemmas.Bool.{false_from_ne_true, or_parts}
use Rattle.std.specs.Bool.{then_some}
use Rattle.mv_certificate_rules.specs.BorrowRules.{is_empty}
use Rattle.mv_borrow_graph.specs.There.{node_itself}
use Rattle.mv_borrow_graph.specs.Laws.There.{same_node-is}

-- ---- nodes

pub node_of-inj : (w : ℕ) (a b : Node) → node_of w a ≡ node_of w b → a ≡ b
node_of-inj w (Glob i) (Glob j) h = let same : defined w i ≡ defined w j = cc in ap Glob (ap (λ (d : Defined). d.index) same)
node_of-inj w (Slot i) (Slot j) h = cc
node_of-inj w (Own i) (Own j) h = cc
node_of-inj w (Temp i) (Temp j) h = cc
node_of-inj w a b h = cc

pub node-is : (n m : Node) → n ≡ m → same_node n m ≡ true
node-is n m h = rw h (node_itself m)

pub node-not : (n m : Node) → (n ≡ m → ⊥) → same_node n m ≡ false
node-not n m d = false_from_ne_true (same_node n m) (λ t. d (same_node-is n m t))

-- ---- members

pub member_left : (e : Edge) (xs ys : List Edge) → Member e xs → Member e (xs ++ ys)
member_left e [] ys h = absurd h
member_left e (x ∷ xs) ys (inl h) = inl h
member_left e (x ∷ xs) ys (inr h) = inr (member_left e xs ys h)

pub member_right : (e : Edge) (xs ys : List Edge) → Member e ys → Member e (xs ++ ys)
member_right e [] ys h = h
member_right e (x ∷ xs) ys h = inr (member_right e xs ys h)

pub member_map : (g : Edge → Edge) (e : Edge) (xs : List Edge) → Member e xs → Member (g e) (map g xs)
member_map g e [] h = h
member_map g e (x ∷ xs) (inl h) = inl (ap g h)
member_map g e (x ∷ xs) (inr h) = inr (member_map g e xs h)

pub member_filter : (p : Edge → Bool) (e : Edge) (xs : List Edge) → p e ≡ true → Member e xs → Member e (filter p xs)
member_filter p e [] t h = h
member_filter p e (x ∷ xs) t (inl h) = rw (sym (ap p h) ∙ t) (inl h)
member_filter p e (x ∷ xs) t (inr h) =
    elim (cases_Bool (p x)) [
      | inl d ↦ rw d (inr (member_filter p e xs t h))
      | inr d ↦ rw d (member_filter p e xs t h)
    ]

pub member_flat : (f : Node → List Edge) (e : Edge) (n : Node) (ns : List Node) → AmongNodes n ns → Member e (f n) → Member e (flat_map f ns)
member_flat f e n [] h m = absurd h
member_flat f e n (x ∷ ns) (inl h) m = member_left e (f x) (flat_map f ns) (rw h at m)
member_flat f e n (x ∷ ns) (inr h) m = member_right e (f x) (flat_map f ns) (member_flat f e n ns h m)

-- none passes, of a list of which no test passes
pub none_any : (test : Edge → Bool) (es : List Edge) → list_any test es ≡ false → (e : Edge) → Member e es → test e ≡ true → ⊥
none_any test [] h e m t = m
none_any test (x ∷ es) h e (inl m) t = true≢false (sym t ∙ ap test m ∙ (or_parts (test x) (list_any test es) h).0)
none_any test (x ∷ es) h e (inr m) t = none_any test es (or_parts (test x) (list_any test es) h).1 e m t

pub none_in : (es : List Edge) → is_empty es ≡ true → (e : Edge) → Member e es → ⊥
none_in [] h e m = m
none_in (x ∷ es) h e m = let d : suc (length es) ≡ 0 = eqb-true (suc (length es)) 0 h in omega arith

-- ---- what the needs say

pub then-some : {A : Type 0} (b : Bool) (x y : A) → then_some b x ≡ Some y → (b ≡ true) × (y ≡ x)
then-some true x y h = (refl, cc)
then-some false x y h = cc

-- no edge leads out
pub free_out : (w : ℕ) (n : Node) (es : List Edge) → no_edge_out n es ≡ true → (x : TheLabel) (c : TheNode) → edges_of w es (node_of w n) x c → ⊥
free_out w n es h x c (e, m, from, l, to) =
    none_in (out_of n es) h e (member_filter (λ d. same_node d.from n) e es (node-is e.from n (node_of-inj w e.from n (sym from))) m)

pub kind_of_node : (p : Point) (w : ℕ) (n : Node) → kind_at p (node_of w n) ≡ is_mutable p n
kind_of_node p w (Slot l) = refl
kind_of_node p w n = refl

-- none leads to a mutable node
pub free_mutable : (p : Point) (w : ℕ) (n : Node) (es : List Edge) → no_mutable_from p n es ≡ true → (x : TheLabel) (c : TheNode)
    → edges_of w es (node_of w n) x c → kind_at p c ≡ true → ⊥
free_mutable p w n es h x c (e, m, from, l, to) k =
    none_any (λ d. is_mutable p d.to) (out_of n es) (not-true (list_any (λ d. is_mutable p d.to) (out_of n es)) h) e
    (member_filter (λ d. same_node d.from n) e es (node-is e.from n (node_of-inj w e.from n (sym from))) m)
    (sym (kind_of_node p w e.to) ∙ ap (kind_at p) (sym to) ∙ k)

-- ---- edges

abbrev pub Included : Edges → Edges → Type 0
Included e f = (p : TheNode) (x : TheLabel) (c : TheNode) → e p x c → f p x c
