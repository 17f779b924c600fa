-- The order of edges is strict and total.
use Rattle.mv_edges.proofs.Common.{[], ℕ, ◌&&◌, ◌++◌, ◌||◌, ◌∙◌, ◌≡◌, Bool, List, ap, false, not, refl, sym, true, true≢false, bytes_decides, bytes_eq, Node, Glob, Own, Slot, Temp}
use Rattle.mv_edges.proofs.Common.{edge_before, list_before, node_code, nodes_code, Edge, false_from_ne_true, or_left}
use Rattle.mv_edges.proofs.Insertion.{IsStrictOrder}
use Rattle.mv_edges.proofs.Lexicographic.{IsStrictUpTo, list_before_strict, key_then, then_strict}
use Rattle.std.proofs.Math.Bool.{and_assoc, not-and_self}

-- exact before open
abbrev exact_first : Edge → Edge → Bool
exact_first a b = not a.label.is_open && b.label.is_open

exact_transitive : (a b c : Bool) → (not a && b) ≡ true → (not b && c) ≡ true → (not a && c) ≡ true
exact_transitive true b c h g = h
exact_transitive false true c h g = absurd (true≢false (sym g))
exact_transitive false false c h g = g

exact_ties : (a b : Bool) → (not a && b) ≡ false → (not b && a) ≡ false → a ≡ b
exact_ties true true h g = refl
exact_ties true false h g = g
exact_ties false true h g = sym h
exact_ties false false h g = refl

exact_strict : IsStrictUpTo exact_first (λ a b. a.label.is_open ≡ b.label.is_open)
exact_strict = record {
  irreflexive = λ a. not-and_self a.label.is_open;
  transitive = λ a b c. exact_transitive a.label.is_open b.label.is_open c.label.is_open;
  ties = λ a b. exact_ties a.label.is_open b.label.is_open;
}

abbrev by_label : Edge → Edge → Bool
by_label = key_then (λ e. e.label.path) list_before bytes_eq bytes_decides list_before_strict exact_first

abbrev by_nodes : Edge → Edge → Bool
by_nodes = key_then nodes_code list_before bytes_eq bytes_decides list_before_strict by_label

by_nodes_strict : IsStrictUpTo by_nodes (λ a b. (nodes_code a ≡ nodes_code b) × ((a.label.path ≡ b.label.path) × (a.label.is_open ≡ b.label.is_open)))
by_nodes_strict =
    then_strict nodes_code list_before bytes_eq bytes_decides list_before_strict by_label (λ a b. (a.label.path ≡ b.label.path) × (a.label.is_open ≡ b.label.is_open))
    (then_strict (λ e. e.label.path) list_before bytes_eq bytes_decides list_before_strict exact_first (λ a b. a.label.is_open ≡ b.label.is_open) exact_strict)

before_is : (a b : Edge) → edge_before a b ≡ by_nodes a b
before_is a b =
    ap (λ c. list_before (nodes_code a) (nodes_code b) || bytes_eq (nodes_code a) (nodes_code b) && (list_before a.label.path b.label.path || c))
    (and_assoc (bytes_eq a.label.path b.label.path) (not a.label.is_open) b.label.is_open)

-- a node is told by its two numbers
pub record SameStart (n m : Node) (xs ys : List ℕ) : Type 0 where
  pub node : n ≡ m
  pub rest : xs ≡ ys

pub same_start : (n m : Node) (xs ys : List ℕ) → node_code n ++ xs ≡ node_code m ++ ys → SameStart n m xs ys
same_start (Slot i) (Slot j) xs ys h = record { node = cc; rest = cc }
same_start (Own i) (Own j) xs ys h = record { node = cc; rest = cc }
same_start (Glob i) (Glob j) xs ys h = record { node = cc; rest = cc }
same_start (Temp i) (Temp j) xs ys h = record { node = cc; rest = cc }
same_start m n xs ys h = cc

pub same_edges : (a b : Edge) → nodes_code a ≡ nodes_code b → a.label.path ≡ b.label.path → a.label.is_open ≡ b.label.is_open → a ≡ b
same_edges a b h p o =
    let nodes : node_code a.from ++ node_code a.to ≡ node_code b.from ++ node_code b.to = h in
    let first = same_start a.from b.from (node_code a.to) (node_code b.to) nodes in
    let second = same_start a.to b.to [] [] (ap (λ xs. xs ++ []) first.rest) in
    λ i. record { from = first.node i; label = record { path = p i; is_open = o i }; to = second.node i }

pub edge_strict : IsStrictOrder edge_before
edge_strict = record {
  irreflexive = λ a. before_is a a ∙ by_nodes_strict.irreflexive a;
  transitive = λ a b c h g. before_is a c ∙ by_nodes_strict.transitive a b c (sym (before_is a b) ∙ h) (sym (before_is b c) ∙ g);
  total = λ a b h g. let t = by_nodes_strict.ties a b (sym (before_is a b) ∙ h) (sym (before_is b a) ∙ g) in same_edges a b t.0 t.1.0 t.1.1;
}

-- of two edges the later one has no earlier nodes
pub not_later : (a b : Edge) → edge_before a b ≡ true → list_before (nodes_code b) (nodes_code a) ≡ false
not_later a b h =
    false_from_ne_true (list_before (nodes_code b) (nodes_code a))
    (λ g. true≢false (sym (edge_strict.transitive a b a h (or_left (list_before (nodes_code b) (nodes_code a)) _ g)) ∙ edge_strict.irreflexive a))
