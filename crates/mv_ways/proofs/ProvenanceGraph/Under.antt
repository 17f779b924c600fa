-- Whether the edges of a reference lie below others: by what is derived for its provenance, and for each provenance that was given to a
-- function on the way there.
use Rattle.mv_edges.proofs.Common.{[], ℕ, ◌&&◌, ◌++◌, ◌<◌, ◌+◌, ◌∙◌, ◌∷◌, ◌≡◌, ◌||◌, Bool, List, None, Option, Some, ap, append-nil, arith, cases_lt, false, flat_map, flat_map-append, get_or, inl, inr, length, refl, set, slice_get, suc, subst, sym, true}
use Rattle.mv_edges.proofs.Common.{Node, Edge, Label, edges_leq, here, label_leq, opened, sorted, an_edge, composed}
use Rattle.std.proofs.Common.{get_or-set_other, get_or-set_same, ◌≢◌}
use Rattle.std.specs.List.{list_all}
use Rattle.std.proofs.lemmas.Bool.{and_parts, and_from}
use Rattle.std.proofs.Math.Bool.{and-true}
use Rattle.mv_edges.proofs.AsSets.{leq-sorted}
use Rattle.mv_edges.proofs.Order.{begins-append, edges_leq_from_contains, edges_leq-transitive, label_leq_itself, label_leq_prefix}
use Rattle.mv_edges.proofs.Related.{related_from}
use Rattle.mv_move_types.specs.Paths.{begins}
use Rattle.std.proofs.lemmas.List.Elements.{Contains-append_left, Contains-append_right}
use Rattle.mv_ways.specs.Behind.{a_tail, edges_with, edges_from}
use Rattle.mv_ways.specs.Covered.{open_tail}
use Rattle.mv_ways.specs.Derived.{all_derived, begun_open, derived_edges, derived_of, is_field, is_passed}
use Rattle.mv_ways.specs.Going.{IsReturned, LeadsTo, original, says_passed}
use Rattle.mv_ways.specs.declared.provenances.under.leading.Mark.{Mark}
use Rattle.mv_ways.specs.Going.LeadsTo.{itself, by_derived, by_given}
use Rattle.mv_ways.specs.Origins.{Origin}
use Rattle.mv_ways.specs.Sinks.{leq_append}
use Rattle.mv_ways.specs.Told.{IsTold}
use Rattle.mv_ways.specs.Provenances.{ProvenanceGraph, an_origin, all_origins, are_earlier, origins_at, reference_edges, source_at}
use Rattle.mv_ways.specs.declared.provenances.Reference.{Reference}
use Rattle.mv_ways.specs.declared.provenances.Provenance.{Provenance}
use Rattle.mv_ways.specs.declared.provenances.sinks.Under.{Under}
use Rattle.mv_ways.specs.declared.provenances.Provenance.TheVariants.{Stated, Lent, Field, Returned}
use Rattle.mv_ways.proofs.ProvenanceGraph.Behind.{by_field, by_here}
use Rattle.mv_ways.proofs.ProvenanceGraph.DerivedListing.{derived_at-provenance}
use Rattle.mv_ways.proofs.ProvenanceGraph.Normal.{chain_ends, given_hold, normal}
use Rattle.mv_ways.proofs.ProvenanceGraph.Terms.{all_given}

-- any provenance
abbrev pub some_provenance : Provenance
some_provenance = Lent 0 None

pub leq_each_of : {X : Type 0} (f : X → List Edge) (others : List Edge) (xs : List X) → edges_leq (flat_map f xs) others ≡ list_all (λ x. edges_leq (f x) others) xs
leq_each_of f others [] = refl
leq_each_of f others (x ∷ xs) = leq_append (f x) (flat_map f xs) others ∙ ap (λ b. edges_leq (f x) others && b) (leq_each_of f others xs)

-- ---- what is passed goes on to what is derived from it

-- one label further on is below the same label, opened
label_on : (l : Label) (path : List ℕ) → label_leq (composed l (record { path = path; is_open = true })) (composed l (opened here)) ≡ true
label_on l path = by_open l.is_open l.path
  where
    by_open : (o : Bool) (p : List ℕ) → label_leq (composed (record { path = p; is_open = o }) (record { path = path; is_open = true })) (composed (record { path = p; is_open = o }) (opened here)) ≡ true
    by_open true p = label_leq_itself (record { path = p; is_open = true })
    by_open false p = label_leq_prefix (record { path = p ++ path; is_open = true }) (record { path = p ++ []; is_open = true }) refl
        (subst (λ q. begins q (p ++ path) ≡ true) (sym (append-nil p)) (begins-append p path))

module _ (sources : List (Option Node)) (to : Node) (path : List ℕ) where
  abbrev By : List ℕ → List Origin → List Edge
  By behind origins = edges_with sources to origins (open_tail behind ∷ [])

  abbrev Of : List ℕ → Origin → List Edge
  Of behind origin = edges_from sources to (open_tail behind ∷ []) origin

  on_from : (l : Origin) (o : Option Node) → source_at sources l.source ≡ o → edges_leq (Of path l) (Of [] l) ≡ true
  on_from l None at = rw at refl
  on_from l (Some from) at =
      let low = an_edge from (composed l.label (record { path = path; is_open = true })) to in
      let high = an_edge from (composed l.label (record { path = []; is_open = true })) to in
      rw at (ap (λ b. (b || false) && true) (related_from label_leq low high refl refl (label_on l.label path)))

  -- what begins with an origin, with positions behind it, is below what begins with it, opened
  pub origin_on : (l : Origin) (others : List Edge) → edges_leq (Of [] l) others ≡ true → edges_leq (Of path l) others ≡ true
  origin_on l others h = edges_leq-transitive (Of path l) (Of [] l) others (on_from l (source_at sources l.source) refl) h

  -- so is what begins with each of some origins
  pub origins_on : (origins : List Origin) → edges_leq (By path origins) (By [] origins) ≡ true
  origins_on [] = refl
  origins_on (l ∷ origins) =
      let first = Of [] l in
      let rest = By [] origins in
      leq_append (Of path l) (By path origins) (first ++ rest)
      ∙ and_from (edges_leq (Of path l) (first ++ rest)) (edges_leq (By path origins) (first ++ rest))
      (origin_on l (first ++ rest) (edges_leq_from_contains first (first ++ rest) (λ e c. Contains-append_left first rest e c)))
      (edges_leq-transitive (By path origins) rest (first ++ rest) (origins_on origins) (edges_leq_from_contains rest (first ++ rest) (λ e c. Contains-append_right first rest e c)))

module _ (g : ProvenanceGraph) (to : Node) (others : List Edge) (earlier : are_earlier 0 g.provenances ≡ true) (place : ℕ) where
  abbrev Opened : List Origin → List Edge
  Opened origins = edges_with g.sources to origins (a_tail (record { path = []; is_open = true }) ∷ [])

  field_passed : (over position : ℕ) → slice_get g.provenances place ≡ Some (Field over position) → is_passed g to others over ≡ true → is_passed g to others place ≡ true
  field_passed over position at h =
      let origins = origins_at (all_derived g.provenances) over in
      let same : derived_edges g to true place ≡ By g.sources to (position ∷ []) (position ∷ []) origins =
      ap Opened (derived_at-provenance g.provenances earlier place (Field over position) at) ∙ by_field g.sources to position origins (a_tail (record { path = []; is_open = true }) ∷ []) in
      edges_leq-transitive (derived_edges g to true place) (derived_edges g to true over) others
      (subst (λ es. edges_leq es (derived_edges g to true over) ≡ true) (sym same) (origins_on g.sources to (position ∷ []) origins)) h

  copy_passed : (source over : ℕ) → slice_get g.provenances place ≡ Some (Lent source (Some over))
      → is_passed g to others place ≡ (is_passed g to others over && edges_leq (begun_open g to (Lent source (Some over))) others)
  copy_passed source over at =
      let origins = origins_at (all_derived g.provenances) over in
      ap (λ ls. edges_leq (Opened ls) others) (derived_at-provenance g.provenances earlier place (Lent source (Some over)) at)
      ∙ ap (λ es. edges_leq es others) (flat_map-append (edges_from g.sources to (a_tail (record { path = []; is_open = true }) ∷ [])) origins (an_origin source here ∷ []))
      ∙ leq_append (Opened origins) (Opened (an_origin source here ∷ [])) others

  -- a provenance that is derived from none is passed if what begins there is
  pub own_passed : (provenance : Provenance) → slice_get g.provenances place ≡ Some provenance → original provenance ≡ None → is_passed g to others place ≡ edges_leq (begun_open g to provenance) others
  own_passed provenance at none = ap (λ ls. edges_leq (Opened ls) others) (derived_at-provenance g.provenances earlier place provenance at) ∙ by_provenance provenance none
    where
      by_provenance : (w : Provenance) → original w ≡ None → edges_leq (Opened (derived_of (all_derived g.provenances) w)) others ≡ edges_leq (begun_open g to w) others
      by_provenance (Stated origins) n = refl
      by_provenance (Lent source None) n = refl
      by_provenance (Lent source (Some over)) n = cc n
      by_provenance (Field over position) n = cc n
      by_provenance (Returned provenances) n = refl

  -- so is one that is derived from a passed one
  pub over_passed : (provenance : Provenance) (over : ℕ) → slice_get g.provenances place ≡ Some provenance → original provenance ≡ Some over → is_passed g to others over ≡ true
      → is_passed g to others place ≡ edges_leq (begun_open g to provenance) others
  over_passed (Stated origins) over at o h = cc o
  over_passed (Lent source None) over at o h = cc o
  over_passed (Lent source (Some k)) over at o h =
      let same : k ≡ over = cc o in
      copy_passed source k at ∙ ap (λ b. b && edges_leq (begun_open g to (Lent source (Some k))) others) (ap (is_passed g to others) same ∙ h)
  over_passed (Field k position) over at o h = let same : k ≡ over = cc o in field_passed k position at (ap (is_passed g to others) same ∙ h)
  over_passed (Returned provenances) over at o h = cc o

  -- a copy of one that isn't passed isn't
  pub copy_not_passed : (provenance : Provenance) (over : ℕ) → slice_get g.provenances place ≡ Some provenance → original provenance ≡ Some over → is_field provenance ≡ false → is_passed g to others over ≡ false
      → is_passed g to others place ≡ false
  copy_not_passed (Stated origins) over at o n h = cc o
  copy_not_passed (Lent source None) over at o n h = cc o
  copy_not_passed (Lent source (Some k)) over at o n h =
      let same : k ≡ over = cc o in
      copy_passed source k at ∙ ap (λ b. b && edges_leq (begun_open g to (Lent source (Some k))) others) (ap (is_passed g to others) same ∙ h)
  copy_not_passed (Field k position) over at o n h = cc n
  copy_not_passed (Returned provenances) over at o n h = cc o

-- ---- what is noted of provenances

-- what a sink that asks whether all edges are below others says of those that it was told
pub told_under : (old new : Under) (es : List Edge) (more : Bool)
    → IsTold (λ (o : Under) (xs : List Edge) (n : Under). (n.others.now ≡ o.others.now) × (n.holds ≡ (o.holds && edges_leq xs o.others.now))) old es more new → old.holds ≡ true
    → new.holds ≡ edges_leq es old.others.now
told_under old new es true h t = h.1 ∙ ap (λ b. b && edges_leq es old.others.now) t
told_under old new es false h t =
    let all = h [] in
    all.1 ∙ ap (λ b. b && edges_leq (es ++ []) old.others.now) t ∙ ap (λ xs. edges_leq xs old.others.now) (append-nil es)

-- one provenance more is noted, or nothing of one that doesn't lead on
module _ (P : ℕ → Bool) (Leads : ℕ → Type 0) (marks : List Mark) (place : ℕ) (noted : (k : ℕ) (d : Mark) → k < place → Leads k → says_passed (get_or marks k d) ≡ P k) where
  pub noted_set : (mark : Mark) → place < length marks → says_passed mark ≡ P place → (k : ℕ) (d : Mark) → k < place + 1 → Leads k → says_passed (get_or (set marks place mark) k d) ≡ P k
  noted_set mark room is k d below leads =
      elim (cases_lt k place) [
        | inl less ↦ let ne : k ≢ place = omega (arith, less) in ap says_passed (get_or-set_other marks place k mark d ne) ∙ noted k d less leads
        | inr last ↦
            let same : place ≡ k = omega (arith, last, below) in
            subst (λ j. says_passed (get_or (set marks place mark) j d) ≡ P j) same (ap says_passed (get_or-set_same marks place mark d room) ∙ is)
      ]

  pub noted_same : (Leads place → ⊥) → (k : ℕ) (d : Mark) → k < place + 1 → Leads k → says_passed (get_or marks k d) ≡ P k
  noted_same never k d below leads =
      elim (cases_lt k place) [
        | inl less ↦ noted k d less leads
        | inr last ↦ let same : k ≡ place = omega (arith, last, below) in absurd (never (subst Leads same leads))
      ]

pub given_more : (P : ℕ → Bool) (Given : ℕ → Type 0) (place : ℕ) → (Given place → P place ≡ true) → ((k : ℕ) → k < place → Given k → P k ≡ true) → (k : ℕ) → k < place + 1 → Given k → P k ≡ true
given_more P Given place last before k below is =
    elim (cases_lt k place) [
      | inl less ↦ before k less is
      | inr here ↦ let same : place ≡ k = omega (arith, here, below) in subst (λ j. P j ≡ true) same (last (subst Given (sym same) is))
    ]

-- ---- a reference's edges

module _ (g : ProvenanceGraph) (r : Reference) (others : List Edge) (earlier : are_earlier 0 g.provenances ≡ true) (within : r.provenance < length g.provenances) where
  abbrev reference_origins : List Origin
  reference_origins = origins_at (all_origins g.provenances) r.provenance

  abbrev derived_here : List Edge
  derived_here = derived_edges g r.node false r.provenance

  -- what leads to each provenance that its chain ends with, opened
  abbrev given_here : List Edge
  given_here = flat_map (λ k. edges_with g.sources r.node (origins_at (all_origins g.provenances) k) (a_tail (opened here) ∷ [])) (get_or (all_given g.provenances) r.provenance [])

  abbrev Holds : List Edge → Type 0
  Holds es = edges_leq es others ≡ true

  both : (xs ys : List Edge) → Holds xs → Holds ys → Holds (xs ++ ys)
  both xs ys p q = leq_append xs ys others ∙ and_from (edges_leq xs others) (edges_leq ys others) p q

  split : (xs ys : List Edge) → Holds (xs ++ ys) → Holds xs × Holds ys
  split xs ys p = and_parts (edges_leq xs others) (edges_leq ys others) (sym (leq_append xs ys others) ∙ p)

  alike : (xs ys : List Edge) → sorted xs ≡ sorted ys → Holds xs → Holds ys
  alike xs ys same p = sym (leq-sorted ys others) ∙ ap (λ zs. edges_leq zs others) (sym same) ∙ leq-sorted xs others ∙ p

  by_parts : edges_leq (reference_edges g.sources (all_origins g.provenances) r) others ≡ (edges_leq derived_here others && edges_leq given_here others)
  by_parts =
      ap (λ es. edges_leq es others) (sym (by_here g.sources r.node reference_origins))
      ∙ sym (leq-sorted (edges_with g.sources r.node reference_origins (a_tail here ∷ [])) others)
      ∙ ap (λ es. edges_leq es others) (normal g.sources r.node g.provenances earlier (suc r.provenance) r.provenance (a_tail here) (omega arith) within)
      ∙ leq-sorted (derived_here ++ given_here) others
      ∙ leq_append derived_here given_here others

  -- if all given provenances are passed, the exact end decides
  pub under_by_end : ((k : ℕ) → IsReturned g.provenances r.provenance 0 k → is_passed g r.node others k ≡ true) → edges_leq (reference_edges g.sources (all_origins g.provenances) r) others ≡ edges_leq derived_here others
  under_by_end all =
      by_parts
      ∙ ap (λ b. edges_leq derived_here others && b)
      (chain_ends g.sources r.node g.provenances earlier Holds refl both alike (LeadsTo g.provenances r.provenance) (IsReturned g.provenances r.provenance 0)
      (λ k over provenance at origins o. by_derived (record { at = at; over = o }) origins)
      (λ k j provenance at origins has. (by_given (record { at = at; has = has }) origins, record { child = k; provenance = provenance; behind = omega arith; giving = record { at = at; has = has }; leading = origins }))
      all (suc r.provenance) r.provenance (omega arith) within itself)
      ∙ and-true (edges_leq derived_here others)

  -- and all are, if the edges are below
  pub given_under : edges_leq (reference_edges g.sources (all_origins g.provenances) r) others ≡ true → (k : ℕ) → IsReturned g.provenances r.provenance 0 k → is_passed g r.node others k ≡ true
  given_under h k is =
      given_hold g.sources r.node g.provenances earlier Holds split alike r.provenance (and_parts (edges_leq derived_here others) (edges_leq given_here others) (sym by_parts ∙ h)).1 k is
