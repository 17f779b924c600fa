-- Edges between nodes that are there, before and after some types on the stack are exchanged for others.
use Rattle.std.proofs.Common.{◌≡◌, ℕ, ◌+◌, Bool, true, false, cond, not, ◌&&◌, List, [], ◌∷◌, ◌++◌, length, map, filter, flat_map}
use Rattle.std.proofs.Common.{refl, sym, ap, ◌∙◌, true≢false}
use Rattle.std.specs.Prelude.{nat_lt}
use Rattle.std.specs.List.{list_all}
use Rattle.std.proofs.lemmas.Bool.{and_parts, and_from, not-true}
use Rattle.std.proofs.lemmas.List.Folds.{list_all-append, list_all-map}
use Rattle.mv_move_types.specs.declared.borrow.Node.{Node}
use Rattle.mv_move_types.specs.declared.borrow.Node.TheVariants.{Temp}
use Rattle.mv_move_types.specs.Module.{Module, FunctionDefinition}
use Rattle.mv_type_rules.specs.TypeRules.{Types}
use Rattle.mv_type_rules.specs.TypesHold.{Point, point_at}
use Rattle.mv_edges.specs.Edges.{Label, Edge, same_node, inherited, into, without, renamed, renamed_node}
use Rattle.mv_edges.specs.Equality.{same_node_decides}
use Rattle.mv_edges.specs.Sorted.{sorted}
use Rattle.mv_edges.proofs.Insertion.{all_weaker, all_contains, all_from_contains}
use Rattle.mv_edges.proofs.Sorting.{contains-sorted}
use Rattle.mv_certificate_rules.specs.BorrowRules.{is_reference_token}
use Rattle.mv_certificate_rules.specs.Nodes.{has_place, leads_out, leads_in, edge_is_there, are_there}
use Rattle.mv_borrow_graph.specs.Laws.Places.{is_under, out_stays, in_stays, out_under, in_under, out_free, in_free}

-- whether each position of a label is one of a field
abbrev pub is_small : Label → Bool
is_small label = list_all (λ i. nat_lt i 32) label.path

-- the four parts of an edge that is there
pub record IsThere (p : Point) (e : Edge) : Type 0 where
  pub out : leads_out p e.from ≡ true
  pub into : leads_in p e.to ≡ true
  pub apart : same_node e.from e.to ≡ false
  pub small : is_small e.label ≡ true

pub there_parts : (p : Point) (e : Edge) → edge_is_there p e ≡ true → IsThere p e
there_parts p e h =
    let three = and_parts (leads_out p e.from && leads_in p e.to && not (same_node e.from e.to)) (is_small e.label) h in
    let two = and_parts (leads_out p e.from && leads_in p e.to) (not (same_node e.from e.to)) three.0 in
    let one = and_parts (leads_out p e.from) (leads_in p e.to) two.0 in
    record { out = one.0; into = one.1; apart = not-true (same_node e.from e.to) two.1; small = three.1 }

pub there_from : (p : Point) (e : Edge) → IsThere p e → edge_is_there p e ≡ true
there_from p e t =
    and_from (leads_out p e.from && leads_in p e.to && not (same_node e.from e.to)) (is_small e.label)
    (and_from (leads_out p e.from && leads_in p e.to) (not (same_node e.from e.to))
    (and_from (leads_out p e.from) (leads_in p e.to) t.out t.into) (ap not t.apart))
    t.small

-- ---- what holds of all edges of a list

pub each_filter : (k q r : Edge → Bool) → ((e : Edge) → k e ≡ true → q e ≡ true → r e ≡ true)
    → (es : List Edge) → list_all q es ≡ true → list_all r (filter k es) ≡ true
each_filter k q r f [] h = refl
each_filter k q r f (x ∷ es) h =
    let parts = and_parts (q x) (list_all q es) h in by_test (k x) refl parts.0 (each_filter k q r f es parts.1)
  where
    by_test : (b : Bool) → k x ≡ b → q x ≡ true → list_all r (filter k es) ≡ true → list_all r (cond b (x ∷ filter k es) (filter k es)) ≡ true
    by_test true t this rest = and_from (r x) (list_all r (filter k es)) (f x t this) rest
    by_test false t this rest = rest

pub each_map : (g : Edge → Edge) (q r : Edge → Bool) → ((e : Edge) → q e ≡ true → r (g e) ≡ true)
    → (es : List Edge) → list_all q es ≡ true → list_all r (map g es) ≡ true
each_map g q r f es h = list_all-map r g es ∙ all_weaker q (λ e. r (g e)) f es h

pub each_append : (r : Edge → Bool) (es fs : List Edge) → list_all r es ≡ true → list_all r fs ≡ true → list_all r (es ++ fs) ≡ true
each_append r es fs h g = list_all-append r es fs ∙ and_from (list_all r es) (list_all r fs) h g

pub each_one : (r : Edge → Bool) (e : Edge) → r e ≡ true → list_all r (e ∷ []) ≡ true
each_one r e h = and_from (r e) true h refl

pub each_sorted : (r : Edge → Bool) (es : List Edge) → list_all r es ≡ true → list_all r (sorted es) ≡ true
each_sorted r es h = all_from_contains r (sorted es) (λ e c. all_contains r es e h ((contains-sorted es e).0 c))

pub each_flat : (r : Edge → Bool) (f : Node → List Edge) → ((n : Node) → list_all r (f n) ≡ true) → (ns : List Node) → list_all r (flat_map f ns) ≡ true
each_flat r f h [] = refl
each_flat r f h (n ∷ ns) = each_append r (f n) (flat_map f ns) (h n) (each_flat r f h ns)

pub each_inherited : (q r : Edge → Bool) (change : Label → Label) (old new : Node)
    → ((e : Edge) → q e ≡ true → same_node e.to old ≡ true → r (record { from = e.from; label = change e.label; to = new }) ≡ true)
    → (es : List Edge) → list_all q es ≡ true → list_all r (inherited change old new es) ≡ true
each_inherited q r change old new f es h =
    let g : Edge → Edge = λ e. record { from = e.from; label = change e.label; to = new } in
    each_map g (λ e. r (g e)) r (λ e t. t) (into old es) (each_filter (λ e. same_node e.to old) q (λ e. r (g e)) (λ e t s. f e s t) es h)

-- ---- nodes

pub same_node-is : (n m : Node) → same_node n m ≡ true → n ≡ m
same_node-is n m = (same_node_decides n m).0

pub node_itself : (n : Node) → same_node n n ≡ true
node_itself n = (same_node_decides n n).1 refl

pub apart_turned : (n m : Node) → same_node n m ≡ false → same_node m n ≡ false
apart_turned n m h = by_test (same_node m n) refl
  where
    by_test : (b : Bool) → same_node m n ≡ b → b ≡ false
    by_test false t = refl
    by_test true t = absurd (true≢false (sym ((same_node_decides n m).1 (sym (same_node-is m n t))) ∙ h))

-- the nodes that an edge without those at a node has
pub neither : (n : Node) (e : Edge) → (not (same_node e.from n) && not (same_node e.to n)) ≡ true → (same_node e.from n ≡ false) × (same_node e.to n ≡ false)
neither n e h =
    let parts = and_parts (not (same_node e.from n)) (not (same_node e.to n)) h in
    (not-true (same_node e.from n) parts.0, not-true (same_node e.to n) parts.1)

-- ---- a node in place of another

-- an edge that is there, and not at the new node
abbrev pub is_free_of : Point → Node → Edge → Bool
is_free_of p c e = edge_is_there p e && (not (same_node e.from c) && not (same_node e.to c))

module _ (p q : Point) (a c : Node)
    (outs : (n : Node) → leads_out p n ≡ true → same_node n c ≡ false → leads_out q (renamed_node a c n) ≡ true)
    (ins : (n : Node) → leads_in p n ≡ true → same_node n c ≡ false → leads_in q (renamed_node a c n) ≡ true)
  where
    stay_apart : (f t : Node) → same_node f t ≡ false → same_node f c ≡ false → same_node t c ≡ false
        → same_node (renamed_node a c f) (renamed_node a c t) ≡ false
    stay_apart f t ne fc tc = by_tests (same_node f a) refl (same_node t a) refl
      where
        by_tests : (x : Bool) → same_node f a ≡ x → (y : Bool) → same_node t a ≡ y → same_node (cond x c f) (cond y c t) ≡ false
        by_tests true ef true et = absurd (true≢false (sym ((same_node_decides f t).1 (same_node-is f a ef ∙ sym (same_node-is t a et))) ∙ ne))
        by_tests true ef false et = apart_turned t c tc
        by_tests false ef true et = fc
        by_tests false ef false et = ne

    pub renamed_there : (es : List Edge) → list_all (is_free_of p c) es ≡ true → are_there q (renamed a c es) ≡ true
    renamed_there es h =
        each_map (λ e. record { from = renamed_node a c e.from; label = e.label; to = renamed_node a c e.to }) (is_free_of p c) (edge_is_there q)
        (λ e t.
        let parts = and_parts (edge_is_there p e) (not (same_node e.from c) && not (same_node e.to c)) t in
        let was = there_parts p e parts.0 in
        let free = neither c e parts.1 in
        there_from q (record { from = renamed_node a c e.from; label = e.label; to = renamed_node a c e.to })
        (record {
          out = outs e.from was.out free.0;
          into = ins e.to was.into free.1;
          apart = stay_apart e.from e.to was.apart free.0 free.1;
          small = was.small;
        }))
        es h

module _ (m : Module) (d : FunctionDefinition) (taken given rest : Types) where
  abbrev old : Point
  old = point_at m d (taken ++ rest)

  abbrev new : Point
  new = point_at m d (given ++ rest)

  -- an edge under the exchange stays
  pub edge_stays : (e : Edge) → IsThere old e → is_under (length rest) e.from ≡ true → is_under (length rest) e.to ≡ true → edge_is_there new e ≡ true
  edge_stays e t f g = there_from new e
      (record { out = out_stays m d taken given rest e.from t.out f; into = in_stays m d taken given rest e.to t.into g; apart = t.apart; small = t.small })

  -- edges stay where no reference is taken
  pub all_stay : ((i : ℕ) → has_place is_reference_token taken i ≡ true → ⊥) → (es : List Edge) → are_there old es ≡ true → are_there new es ≡ true
  all_stay none es h =
      all_weaker (edge_is_there old) (edge_is_there new)
      (λ e t. let was = there_parts old e t in
      edge_stays e was (out_free m d taken given rest none e.from was.out) (in_free m d taken given rest none e.to was.into)) es h

  -- where one is, those that are not at it do
  pub others_stay : (j : ℕ) → ((i : ℕ) → has_place is_reference_token taken i ≡ true → i ≡ j) → (n : Node) → n ≡ Temp (length rest + j)
      → (es : List Edge) → are_there old es ≡ true → are_there new (without n es) ≡ true
  others_stay j only n is es h =
      each_filter (λ e. not (same_node e.from n) && not (same_node e.to n)) (edge_is_there old) (edge_is_there new)
      (λ e free t.
      let was = there_parts old e t in
      let parts = neither n e free in
      edge_stays e was
      (out_under m d taken given rest j only e.from was.out (ap (same_node e.from) (sym is) ∙ parts.0))
      (in_under m d taken given rest j only e.to was.into (ap (same_node e.to) (sym is) ∙ parts.1)))
      es h
