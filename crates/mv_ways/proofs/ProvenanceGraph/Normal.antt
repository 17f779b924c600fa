-- What leads to a provenance is what is derived for it, and what leads to each provenance that its chain ends with, opened.
use Rattle.mv_edges.proofs.Common.{[], ℕ, zero, suc, ◌++◌, ◌+◌, ◌<◌, ◌∙◌, ◌∷◌, ◌≡◌, List, None, Option, Some, ap, append-nil, arith, flat_map, flat_map-append, get_or, refl, slice_get, slice_get-get_or, length, sorted, subst, sym, true, Node, Edge, ltb-true, Contains, and_parts, inl, inr, list_all, slice_get_within}
use Rattle.std.specs.Prelude.{nat_lt}
use Rattle.mv_edges.proofs.Insertion.{all_contains, contains_cases, contains_here, contains_none, contains_there}
use Rattle.mv_edges.specs.Edges.{here, opened}
use Rattle.mv_edges.proofs.AsSets.{sorted-append}
use Rattle.mv_ways.specs.Behind.{a_tail, edges_with, edges_from}
use Rattle.mv_ways.specs.Derived.{all_derived, derived_of}
use Rattle.mv_ways.specs.Going.{IsReturned, LeadsTo, given, original}
use Rattle.mv_ways.specs.Going.LeadsTo.{itself, by_derived, by_given}
use Rattle.mv_ways.specs.Origins.{Origin}
use Rattle.mv_ways.specs.Provenances.{an_origin, all_origins, are_earlier, goes_below, origins_at, origins_of}
use Rattle.mv_ways.specs.declared.provenances.Provenance.{Provenance}
use Rattle.mv_ways.specs.declared.provenances.Provenance.TheVariants.{Stated, Lent, Field, Returned}
use Rattle.mv_ways.proofs.ProvenanceGraph.Behind.{by_field, by_returned, field_tail, swap_last}
use Rattle.mv_ways.proofs.ProvenanceGraph.DerivedListing.{derived_at-provenance}
use Rattle.mv_ways.proofs.ProvenanceGraph.Folded.{at_provenance}
use Rattle.mv_ways.proofs.ProvenanceGraph.Listing.{earlier_at, origins_at-provenance}
use Rattle.mv_ways.proofs.ProvenanceGraph.Terms.{all_given, given_of}

given_alike : (listed others : List (List ℕ)) (place : ℕ) → ((k : ℕ) → k < place → get_or listed k [] ≡ get_or others k []) → (provenance : Provenance) → goes_below place provenance ≡ true → given_of listed provenance ≡ given_of others provenance
given_alike listed others place same (Stated origins) h = refl
given_alike listed others place same (Lent source None) h = refl
given_alike listed others place same (Lent source (Some k)) h = same k (ltb-true k place h)
given_alike listed others place same (Field over position) h = same over (ltb-true over place h)
given_alike listed others place same (Returned provenances) h = refl

pub given_at-provenance : (provenances : List Provenance) → are_earlier 0 provenances ≡ true → (i : ℕ) (provenance : Provenance) → slice_get provenances i ≡ Some provenance → get_or (all_given provenances) i [] ≡ given_of (all_given provenances) provenance
given_at-provenance = at_provenance given_of given_alike

module _ (sources : List (Option Node)) (node : Node) (provenances : List Provenance) (e : are_earlier 0 provenances ≡ true) where
  abbrev By : List Origin → Edge → List Edge
  By origins t = edges_with sources node origins (t ∷ [])

  -- what leads to each of these, opened
  abbrev Opened : List ℕ → List Edge
  Opened ks = flat_map (λ k. By (origins_at (all_origins provenances) k) (a_tail (opened here))) ks

  by_provenance : (provenance : Provenance) (t : Edge)
      → ((over : ℕ) (u : Edge) → original provenance ≡ Some over → sorted (By (origins_at (all_origins provenances) over) u) ≡ sorted (By (origins_at (all_derived provenances) over) u ++ Opened (get_or (all_given provenances) over [])))
      → sorted (By (origins_of (all_origins provenances) provenance) t) ≡ sorted (By (derived_of (all_derived provenances) provenance) t ++ Opened (given_of (all_given provenances) provenance))
  by_provenance (Stated origins) t ih = ap sorted (sym (append-nil (By origins.items t)))
  by_provenance (Lent source None) t ih = ap sorted (sym (append-nil (By (an_origin source here ∷ []) t)))
  by_provenance (Lent source (Some over)) t ih =
      let own = By (an_origin source here ∷ []) t in
      let led = By (origins_at (all_origins provenances) over) t in
      let derived = By (origins_at (all_derived provenances) over) t in
      let rest = Opened (get_or (all_given provenances) over []) in
      ap sorted (flat_map-append (edges_from sources node (t ∷ [])) (origins_at (all_origins provenances) over) (an_origin source here ∷ []))
      ∙ sorted-append led (derived ++ rest) own own (ih over t refl) refl
      ∙ swap_last derived rest own
      ∙ ap (λ es. sorted (es ++ rest)) (sym (flat_map-append (edges_from sources node (t ∷ [])) (origins_at (all_derived provenances) over) (an_origin source here ∷ [])))
  by_provenance (Field over position) t ih =
      ap sorted (by_field sources node position (origins_at (all_origins provenances) over) (t ∷ []))
      ∙ ih over (field_tail position t) refl
      ∙ ap (λ es. sorted (es ++ Opened (get_or (all_given provenances) over []))) (sym (by_field sources node position (origins_at (all_derived provenances) over) (t ∷ [])))
  by_provenance (Returned ks) t ih = by_returned sources node (all_origins provenances) ks.items t []

  below_it : (place : ℕ) (provenance : Provenance) → goes_below place provenance ≡ true → (over : ℕ) → original provenance ≡ Some over → over < place
  below_it place (Stated origins) h over g = cc g
  below_it place (Lent source None) h over g = cc g
  below_it place (Lent source (Some k)) h over g = subst (λ j. j < place) (cc g) (ltb-true k place h)
  below_it place (Field k position) h over g = subst (λ j. j < place) (cc g) (ltb-true k place h)
  below_it place (Returned ks) h over g = cc g

  pub normal : (n k : ℕ) (t : Edge) → k < n → k < length provenances
      → sorted (By (origins_at (all_origins provenances) k) t) ≡ sorted (By (origins_at (all_derived provenances) k) t ++ Opened (get_or (all_given provenances) k []))
  normal zero k t h inside = absurd (omega (arith, h))
  normal (suc n) k t h inside =
      let provenance = get_or provenances k (Field 0 0) in
      let at : slice_get provenances k ≡ Some provenance = slice_get-get_or provenances k (Field 0 0) inside in
      let below : goes_below k provenance ≡ true = let same : 0 + k ≡ k = omega arith in subst (λ j. goes_below j provenance ≡ true) same (earlier_at provenances 0 e k provenance at) in
      ap (λ ls. sorted (By ls t)) (origins_at-provenance provenances e k provenance at)
      ∙ by_provenance provenance t (λ over u g. let low = below_it k provenance below over g in normal n over u (omega (arith, low, h)) (omega (arith, low, inside)))
      ∙ ap (λ ls. sorted (By ls t ++ Opened (given_of (all_given provenances) provenance))) (sym (derived_at-provenance provenances e k provenance at))
      ∙ ap (λ ks. sorted (By (origins_at (all_derived provenances) k) t ++ Opened ks)) (sym (given_at-provenance provenances e k provenance at))

  -- what P holds of all lists that it holds of in parts, in any order, it holds of what a provenance's chain ends with, if the marks go
  -- down every chain, and P holds of what is derived for each given provenance, opened
  module _ (P : List Edge → Type 0) (none : P []) (both : (xs ys : List Edge) → P xs → P ys → P (xs ++ ys)) (alike : (xs ys : List Edge) → sorted xs ≡ sorted ys → P xs → P ys)
      (Leads IsGiven : ℕ → Type 0)
      (down : (k over : ℕ) (provenance : Provenance) → slice_get provenances k ≡ Some provenance → Leads k → original provenance ≡ Some over → Leads over)
      (back : (k j : ℕ) (provenance : Provenance) → slice_get provenances k ≡ Some provenance → Leads k → Contains (given provenance) j → Leads j × IsGiven j)
      (passed : (k : ℕ) → IsGiven k → P (By (origins_at (all_derived provenances) k) (a_tail (opened here)))) where
    each_given : (n k : ℕ) (js : List ℕ) → k < suc n → k < length provenances → list_all (λ j. nat_lt j k) js ≡ true → ((j : ℕ) → Contains js j → Leads j × IsGiven j)
        → ((j : ℕ) → j < n → j < length provenances → Leads j → P (Opened (get_or (all_given provenances) j []))) → P (Opened js)
    each_given n k [] h inside low all ih = none
    each_given n k (j ∷ js) h inside low all ih =
        let parts = and_parts (nat_lt j k) (list_all (λ i. nat_lt i k) js) low in
        let below = ltb-true j k parts.0 in
        let within : j < length provenances = omega (arith, below, inside) in
        let at = all j (contains_here j js) in
        let derived = By (origins_at (all_derived provenances) j) (a_tail (opened here)) in
        let rest = Opened (get_or (all_given provenances) j []) in
        both (By (origins_at (all_origins provenances) j) (a_tail (opened here))) (Opened js)
        (alike (derived ++ rest) (By (origins_at (all_origins provenances) j) (a_tail (opened here))) (sym (normal (suc j) j (a_tail (opened here)) (omega arith) within))
        (both derived rest (passed j at.1) (ih j (omega (arith, below, h)) within at.0)))
        (each_given n k js h inside parts.1 (λ i c. all i (contains_there j js i c)) ih)

    pub chain_ends : (n k : ℕ) → k < n → k < length provenances → Leads k → P (Opened (get_or (all_given provenances) k []))
    chain_ends zero k h inside leads = absurd (omega (arith, h))
    chain_ends (suc n) k h inside leads =
        let provenance = get_or provenances k (Field 0 0) in
        let at : slice_get provenances k ≡ Some provenance = slice_get-get_or provenances k (Field 0 0) inside in
        let below : goes_below k provenance ≡ true = let same : 0 + k ≡ k = omega arith in subst (λ j. goes_below j provenance ≡ true) same (earlier_at provenances 0 e k provenance at) in
        subst (λ ks. P (Opened ks)) (sym (given_at-provenance provenances e k provenance at)) (by_case provenance at below (λ over g. down k over provenance at leads g) (λ j c. back k j provenance at leads c) (λ j low within is. chain_ends n j low within is))
      where
        by_case : (provenance : Provenance) → slice_get provenances k ≡ Some provenance → goes_below k provenance ≡ true → ((over : ℕ) → original provenance ≡ Some over → Leads over) → ((j : ℕ) → Contains (given provenance) j → Leads j × IsGiven j)
            → ((j : ℕ) → j < n → j < length provenances → Leads j → P (Opened (get_or (all_given provenances) j [])))
            → P (Opened (given_of (all_given provenances) provenance))
        by_case (Stated origins) at below to_original to_given ih = none
        by_case (Lent source None) at below to_original to_given ih = none
        by_case (Lent source (Some over)) at below to_original to_given ih =
            let low = ltb-true over k below in ih over (omega (arith, low, h)) (omega (arith, low, inside)) (to_original over refl)
        by_case (Field over position) at below to_original to_given ih =
            let low = ltb-true over k below in ih over (omega (arith, low, h)) (omega (arith, low, inside)) (to_original over refl)
        by_case (Returned ks) at below to_original to_given ih = each_given n k ks.items h inside below to_given ih

  -- and the other way: if P holds of what leads to the last provenance, it holds of what is derived for each given provenance, opened
  module _ (P : List Edge → Type 0) (split : (xs ys : List Edge) → P (xs ++ ys) → P xs × P ys) (alike : (xs ys : List Edge) → sorted xs ≡ sorted ys → P xs → P ys) where
    one_given : (js : List ℕ) (j : ℕ) → Contains js j → P (Opened js) → P (By (origins_at (all_origins provenances) j) (a_tail (opened here)))
    one_given [] j c p = absurd (contains_none j c)
    one_given (i ∷ js) j c p =
        let parts = split (By (origins_at (all_origins provenances) i) (a_tail (opened here))) (Opened js) p in
        elim (contains_cases i js j c) [
          | inl same ↦ subst (λ x. P (By (origins_at (all_origins provenances) x) (a_tail (opened here)))) same parts.0
          | inr rest ↦ one_given js j rest parts.1
        ]

    to_original : (place : ℕ) (provenance : Provenance) → original provenance ≡ Some place → P (Opened (given_of (all_given provenances) provenance)) → P (Opened (get_or (all_given provenances) place []))
    to_original place (Stated origins) over p = cc over
    to_original place (Lent source None) over p = cc over
    to_original place (Lent source (Some k)) over p = let same : k ≡ place = cc over in subst (λ x. P (Opened (get_or (all_given provenances) x []))) same p
    to_original place (Field k position) over p = let same : k ≡ place = cc over in subst (λ x. P (Opened (get_or (all_given provenances) x []))) same p
    to_original place (Returned ks) over p = cc over

    to_given : (place : ℕ) (provenance : Provenance) → Contains (given provenance) place → P (Opened (given_of (all_given provenances) provenance)) → P (By (origins_at (all_origins provenances) place) (a_tail (opened here)))
    to_given place (Stated origins) has p = absurd (contains_none place has)
    to_given place (Lent source over) has p = absurd (contains_none place has)
    to_given place (Field k position) has p = absurd (contains_none place has)
    to_given place (Returned ks) has p = one_given ks.items place has p

    parts_of : (place : ℕ) → place < length provenances → P (By (origins_at (all_origins provenances) place) (a_tail (opened here)))
        → P (By (origins_at (all_derived provenances) place) (a_tail (opened here))) × P (Opened (get_or (all_given provenances) place []))
    parts_of place inside p =
        let derived = By (origins_at (all_derived provenances) place) (a_tail (opened here)) in
        let rest = Opened (get_or (all_given provenances) place []) in
        split derived rest (alike (By (origins_at (all_origins provenances) place) (a_tail (opened here))) (derived ++ rest) (normal (suc place) place (a_tail (opened here)) (omega arith) inside) p)

    given_before : (place child : ℕ) (provenance : Provenance) → slice_get provenances child ≡ Some provenance → Contains (given provenance) place → place < length provenances
    given_before place child provenance at has =
        let below : goes_below child provenance ≡ true = let same : 0 + child ≡ child = omega arith in subst (λ j. goes_below j provenance ≡ true) same (earlier_at provenances 0 e child provenance at) in
        let inside = slice_get_within provenances child provenance at in
        by_case provenance below has inside
      where
        by_case : (w : Provenance) → goes_below child w ≡ true → Contains (given w) place → child < length provenances → place < length provenances
        by_case (Stated origins) below c inside = absurd (contains_none place c)
        by_case (Lent source over) below c inside = absurd (contains_none place c)
        by_case (Field k position) below c inside = absurd (contains_none place c)
        by_case (Returned ks) below c inside = let low = ltb-true place child (all_contains (λ j. nat_lt j child) ks.items place below c) in omega (arith, low, inside)

    pub ends_hold : (last : ℕ) → P (Opened (get_or (all_given provenances) last [])) → (place : ℕ) → LeadsTo provenances last place → P (Opened (get_or (all_given provenances) place []))
    ends_hold last p place itself = p
    ends_hold last p place (by_derived {child = child} {provenance = provenance} derived leads) =
        to_original place provenance derived.over (subst (λ ks. P (Opened ks)) (given_at-provenance provenances e child provenance derived.at) (ends_hold last p child leads))
    ends_hold last p place (by_given {child = child} {provenance = provenance} giving leads) =
        (parts_of place (given_before place child provenance giving.at giving.has)
        (to_given place provenance giving.has (subst (λ ks. P (Opened ks)) (given_at-provenance provenances e child provenance giving.at) (ends_hold last p child leads)))).1

    pub given_hold : (last : ℕ) → P (Opened (get_or (all_given provenances) last [])) → (place : ℕ) → IsReturned provenances last 0 place → P (By (origins_at (all_derived provenances) place) (a_tail (opened here)))
    given_hold last p place r =
        (parts_of place (given_before place r.child r.provenance r.giving.at r.giving.has)
        (to_given place r.provenance r.giving.has (subst (λ ks. P (Opened ks)) (given_at-provenance provenances e r.child r.provenance r.giving.at) (ends_hold last p r.child r.leading)))).0
