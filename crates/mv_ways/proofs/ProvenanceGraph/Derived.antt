-- What is derived for a provenance is what begins there, and what is derived for the provenance that it goes over, by the position of a
-- field.
use Rattle.std.specs.Prelude.{IfSome, slice_get}
use Rattle.std.proofs.lemmas.Bool.{ltb-true}
use Rattle.mv_ways.proofs.ProvenanceGraph.DerivedListing.{derived_at-provenance}
use Rattle.mv_edges.proofs.Common.{[], ℕ, arith, suc, ◌++◌, ◌∙◌, ◌∷◌, ◌≡◌, List, None, Option, Some, ap, append-nil, append_assoc, flat_map, flat_map-append, option_map_or, refl, sorted, sym, take, drop, get_or, length, ◌+◌, ◌<◌, take-append-drop, take_more, Bool, true, Node, Edge}
use Rattle.mv_edges.proofs.Sorting.{sorted-append_swap}
use Rattle.mv_edges.proofs.AsSets.{sorted-append, sorted_behind_alike}
use Rattle.mv_edges.specs.Edges.{here}
use Rattle.mv_ways.specs.Behind.{a_tail, begun_edges, edges_with, edges_from}
use Rattle.mv_ways.specs.Derived.{all_derived, derived_of, path_before}
use Rattle.mv_ways.specs.Going.{original}
use Rattle.mv_ways.specs.Origins.{Origin}
use Rattle.mv_ways.specs.Provenances.{an_origin, are_earlier, goes_below, origins_at}
use Rattle.mv_ways.specs.declared.provenances.Provenance.{Provenance}
use Rattle.mv_ways.specs.declared.provenances.Provenance.TheVariants.{Stated, Lent, Field, Returned}
use Rattle.mv_ways.proofs.ProvenanceGraph.Behind.{by_field, field_tail}

-- the label behind what a provenance goes over
abbrev pub tail_before : Provenance → Edge → Edge
tail_before (Stated origins) t = t
tail_before (Lent source over) t = t
tail_before (Field over position) t = field_tail position t
tail_before (Returned provenances) t = t

module _ (sources : List (Option Node)) (node : Node) (listed : List (List Origin)) where
  abbrev By : List Origin → Edge → List Edge
  By origins t = edges_with sources node origins (t ∷ [])

  pub derived_step : (provenance : Provenance) (t : Edge) → sorted (begun_edges sources node provenance (t ∷ []) ++ option_map_or (λ k. By (origins_at listed k) (tail_before provenance t)) (original provenance) [])
      ≡ sorted (By (derived_of listed provenance) t)
  derived_step (Stated origins) t = ap sorted (append-nil (By origins.items t))
  derived_step (Lent source None) t = ap sorted (append-nil (By (an_origin source here ∷ []) t))
  derived_step (Lent source (Some over)) t =
      sorted-append_swap (By (an_origin source here ∷ []) t) (By (origins_at listed over) t)
      ∙ ap sorted (sym (flat_map-append (edges_from sources node (t ∷ [])) (origins_at listed over) (an_origin source here ∷ [])))
  derived_step (Field over position) t = ap sorted (sym (by_field sources node position (origins_at listed over) (t ∷ [])))
  derived_step (Returned provenances) t = refl

-- the edges of one origin more
pub led_more : (f : Origin → List Edge) (origins : List Origin) (i : ℕ) (d : Origin) → i < length origins → flat_map f (take (i + 1) origins) ≡ flat_map f (take i origins) ++ f (get_or origins i d)
led_more f origins i d inside =
    ap (flat_map f) (take_more origins i d inside) ∙ flat_map-append f (take i origins) (get_or origins i d ∷ []) ∙ ap (λ es. flat_map f (take i origins) ++ es) (append-nil (f (get_or origins i d)))

-- and all of them, with others behind
pub led_rest : (f : Origin → List Edge) (origins : List Origin) (i : ℕ) (d : Origin) (fs : List Edge) → i < length origins
    → flat_map f (take i origins) ++ (f (get_or origins i d) ++ (flat_map f (drop (i + 1) origins) ++ fs)) ≡ flat_map f origins ++ fs
led_rest f origins i d fs inside =
    let before = flat_map f (take i origins) in
    let one = f (get_or origins i d) in
    let rest = flat_map f (drop (i + 1) origins) in
    sym (append_assoc before one (rest ++ fs)) ∙ ap (λ es. es ++ (rest ++ fs)) (sym (led_more f origins i d inside)) ∙ sym (append_assoc (flat_map f (take (i + 1) origins)) rest fs)
    ∙ ap (λ es. es ++ fs) (sym (flat_map-append f (take (i + 1) origins) (drop (i + 1) origins)) ∙ ap (flat_map f) (take-append-drop (i + 1) origins))

-- positions before those behind a provenance
pub tail_path : (provenance : Provenance) (path : List ℕ) (o : Bool) → tail_before provenance (a_tail (record { path = path; is_open = o })) ≡ a_tail (record { path = path_before provenance path; is_open = o })
tail_path (Stated origins) path o = refl
tail_path (Lent source over) path o = refl
tail_path (Field over position) path o = refl
tail_path (Returned provenances) path o = refl

-- what a provenance is derived from is earlier
pub original_below : (place : ℕ) (provenance : Provenance) → goes_below place provenance ≡ true → IfSome (original provenance) (λ k. k < place)
original_below place (Stated origins) h = tt
original_below place (Lent source None) h = tt
original_below place (Lent source (Some over)) h = ltb-true over place h
original_below place (Field over position) h = ltb-true over place h
original_below place (Returned provenances) h = tt

pub some_weaker : {A : Type 0} (o : Option A) (P Q : A → Type 0) → ((a : A) → P a → Q a) → IfSome o P → IfSome o Q
some_weaker None P Q f h = tt
some_weaker (Some a) P Q f h = f a h

pub some_smaller : (o : Option ℕ) (n : ℕ) → IfSome o (λ k. k < n) → option_map_or suc o 0 < suc n
some_smaller None n h = omega arith
some_smaller (Some k) n h = omega (arith, h)

-- what begins at a provenance is told, and the provenance that it goes over comes next
pub derived_on : (sources : List (Option Node)) (node : Node) (provenances : List Provenance) (place : ℕ) (provenance : Provenance) (t : Edge) (told all : List Edge) → are_earlier 0 provenances ≡ true → slice_get provenances place ≡ Some provenance
    → sorted (told ++ edges_with sources node (origins_at (all_derived provenances) place) (t ∷ [])) ≡ sorted all
    → sorted ((told ++ begun_edges sources node provenance (t ∷ [])) ++ option_map_or (λ k. edges_with sources node (origins_at (all_derived provenances) k) (tail_before provenance t ∷ [])) (original provenance) []) ≡ sorted all
derived_on sources node provenances place provenance t told all e at is =
    let listed = all_derived provenances in
    let begun = begun_edges sources node provenance (t ∷ []) in
    let rest = option_map_or (λ k. edges_with sources node (origins_at listed k) (tail_before provenance t ∷ [])) (original provenance) [] in
    ap sorted (append_assoc told begun rest)
    ∙ sorted_behind_alike told (begun ++ rest) (edges_with sources node (derived_of listed provenance) (t ∷ [])) (derived_step sources node listed provenance t)
    ∙ ap (λ ls. sorted (told ++ edges_with sources node ls (t ∷ []))) (sym (derived_at-provenance provenances e place provenance at)) ∙ is

-- and where no more is wanted, all of it is as good as told
pub derived_all : (told begun rest all fs : List Edge) → sorted ((told ++ begun) ++ rest) ≡ sorted all → sorted (told ++ (begun ++ (rest ++ fs))) ≡ sorted (all ++ fs)
derived_all told begun rest all fs is =
    ap sorted (sym (append_assoc told begun (rest ++ fs)) ∙ sym (append_assoc (told ++ begun) rest fs)) ∙ sorted-append ((told ++ begun) ++ rest) all fs fs is refl
