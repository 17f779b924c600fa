-- The edges of origins with labels behind them: that of the place itself, those of a field, and those of what a function returned.
use Rattle.mv_edges.proofs.Common.{[], ℕ, ◌++◌, ◌∙◌, ◌∷◌, ◌≡◌, Bool, List, Option, ap, append-nil, append_assoc, false, flat_map, inl, inr, map, refl, sym, true}
use Rattle.mv_edges.proofs.Common.{Contains-append_cases, Contains-append_left, flat_map-append, flat_map-map, Node, Edge, Label, composed, extended, here, opened, sorted}
use Rattle.mv_ways.proofs.Piecewise.{flat_map_alike}
use Rattle.mv_edges.proofs.AsSets.{sorted-flat_map_alike, sorted_behind_alike}
use Rattle.mv_edges.proofs.Sorting.{sorted-append_swap, sorted_alike}
use Rattle.mv_ways.specs.Behind.{a_tail, edges_with, edges_from, tail_edges}
use Rattle.mv_ways.specs.Origins.{Origin}
use Rattle.mv_ways.specs.Provenances.{an_origin, changed_origins, origin_edges, origins_at}
use Rattle.mv_ways.proofs.ProvenanceGraph.Passes.{composed-extended}

-- ---- lists that are sorted alike

-- the last two of three parts may change places
pub swap_last : (as' bs cs : List Edge) → sorted ((as' ++ bs) ++ cs) ≡ sorted ((as' ++ cs) ++ bs)
swap_last as' bs cs = ap sorted (append_assoc as' bs cs) ∙ sorted_behind_alike as' (bs ++ cs) (cs ++ bs) (sorted-append_swap bs cs) ∙ ap sorted (sym (append_assoc as' cs bs))

-- a list again
twice : (es : List Edge) → sorted (es ++ es) ≡ sorted es
twice es = sorted_alike (es ++ es) es (λ z. (λ c. elim (Contains-append_cases es es z c) [ inl d ↦ d | inr d ↦ d ], λ c. Contains-append_left es es z c))

-- and once for each of some elements
repeated : {X : Type 0} (es : List Edge) (x : X) (xs : List X) → sorted (flat_map (λ (y : X). es) (x ∷ xs)) ≡ sorted es
repeated es x [] = ap sorted (append-nil es)
repeated {X} es x (y ∷ ys) = sorted_behind_alike es (flat_map (λ (z : X). es) (y ∷ ys)) es (repeated es y ys) ∙ twice es

flat_map-flat_map : {X Y : Type 0} (f : Y → List Edge) (g : X → List Y) (xs : List X) → flat_map f (flat_map g xs) ≡ flat_map (λ x. flat_map f (g x)) xs
flat_map-flat_map f g [] = refl
flat_map-flat_map f g (x ∷ xs) = flat_map-append f (g x) (flat_map g xs) ∙ ap (λ es. flat_map f (g x) ++ es) (flat_map-flat_map f g xs)

-- ---- labels

-- the label of a field with another behind it
abbrev pub field_tail : ℕ → Edge → Edge
field_tail position tail = a_tail (record { path = position ∷ tail.label.path; is_open = tail.label.is_open })

abbrev label_of : List ℕ → Bool → Label
label_of path is_open = record { path = path; is_open = is_open }

composed-here : (l : Label) → composed l here ≡ l
composed-here l = by_open l.is_open l.path
  where
    by_open : (o : Bool) (p : List ℕ) → composed (label_of p o) here ≡ label_of p o
    by_open true p = refl
    by_open false p = ap (λ q. label_of q false) (append-nil p)

composed-open : (l : Label) → composed l (opened here) ≡ opened l
composed-open l = by_open l.is_open l.path
  where
    by_open : (o : Bool) (p : List ℕ) → composed (label_of p o) (opened here) ≡ opened (label_of p o)
    by_open true p = refl
    by_open false p = ap (λ q. label_of q true) (append-nil p)

module _ (sources : List (Option Node)) (node : Node) where
  abbrev By : List Origin → List Edge → List Edge
  By origins tails = edges_with sources node origins tails

  -- the label of the place itself
  pub by_here : (origins : List Origin) → By origins (a_tail here ∷ []) ≡ flat_map (origin_edges sources node) origins
  by_here origins =
      flat_map_alike (edges_from sources node (a_tail here ∷ [])) (origin_edges sources node)
      (λ l. append-nil (origin_edges sources node (an_origin l.source (composed l.label here))) ∙ ap (λ x. origin_edges sources node (an_origin l.source x)) (composed-here l.label)) origins

  -- a field's label stands before the ones behind it
  pub by_field : (f : ℕ) (origins : List Origin) (ts : List Edge) → By (changed_origins (extended f) origins) ts ≡ By origins (map (field_tail f) ts)
  by_field f origins ts =
      flat_map-map (edges_from sources node ts) (λ (l : Origin). an_origin l.source (extended f l.label)) origins
      ∙ flat_map_alike (λ (l : Origin). edges_from sources node ts (an_origin l.source (extended f l.label))) (edges_from sources node (map (field_tail f) ts)) one origins
    where
      one : (l : Origin) → edges_from sources node ts (an_origin l.source (extended f l.label)) ≡ edges_from sources node (map (field_tail f) ts) l
      one l =
          flat_map_alike (tail_edges sources node (an_origin l.source (extended f l.label))) (λ t. tail_edges sources node l (field_tail f t))
          (λ t. ap (λ x. origin_edges sources node (an_origin l.source x)) (composed-extended f l.label t.label)) ts
          ∙ sym (flat_map-map (tail_edges sources node l) (field_tail f) ts)

  -- what is opened stays as it is, whatever labels are behind it
  pub by_opened : (origins : List Origin) (t : Edge) (ts : List Edge) → sorted (By (changed_origins opened origins) (t ∷ ts)) ≡ sorted (By origins (a_tail (opened here) ∷ []))
  by_opened origins t ts =
      ap sorted (flat_map-map (edges_from sources node (t ∷ ts)) (λ (l : Origin). an_origin l.source (opened l.label)) origins)
      ∙ sorted-flat_map_alike (λ (l : Origin). edges_from sources node (t ∷ ts) (an_origin l.source (opened l.label))) (edges_from sources node (a_tail (opened here) ∷ [])) one origins
    where
      one : (l : Origin) → sorted (edges_from sources node (t ∷ ts) (an_origin l.source (opened l.label))) ≡ sorted (edges_from sources node (a_tail (opened here) ∷ []) l)
      one l =
          repeated (origin_edges sources node (an_origin l.source (opened l.label))) t ts
          ∙ ap (λ x. sorted (origin_edges sources node (an_origin l.source x))) (sym (composed-open l.label))
          ∙ ap sorted (sym (append-nil (origin_edges sources node (an_origin l.source (composed l.label (opened here))))))

  pub by_returned : (listed : List (List Origin)) (ks : List ℕ) (t : Edge) (ts : List Edge)
      → sorted (By (flat_map (λ k. changed_origins opened (origins_at listed k)) ks) (t ∷ ts)) ≡ sorted (flat_map (λ k. By (origins_at listed k) (a_tail (opened here) ∷ [])) ks)
  by_returned listed ks t ts =
      ap sorted (flat_map-flat_map (edges_from sources node (t ∷ ts)) (λ k. changed_origins opened (origins_at listed k)) ks)
      ∙ sorted-flat_map_alike (λ k. By (changed_origins opened (origins_at listed k)) (t ∷ ts)) (λ k. By (origins_at listed k) (a_tail (opened here) ∷ [])) (λ k. by_opened (origins_at listed k) t ts) ks
