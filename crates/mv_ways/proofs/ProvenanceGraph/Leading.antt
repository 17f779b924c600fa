-- How it is marked which provenances lead to the last one, from there to the first.
use Rattle.mv_edges.proofs.Common.{ℕ, ◌+◌, ◌<◌, ◌==◌, ◌||◌, ◌∙◌, ◌∷◌, ◌≡◌, ◌≤◌, ◌⊎◌, Contains, List, None, Option, Some, [], ap, arith, false, get_or, inl, inr, length, list_any, refl, slice_get, subst, sym, true, true≢false}
use Rattle.mv_edges.proofs.Common.{cases_lt, eq-eqb, eqb-true, ltb, ltb-true, option_map_or, or_cases, or_left, or_right}
use Rattle.std.proofs.lemmas.Option.{none-some, same_Some, slice_get_within}
use Rattle.mv_edges.proofs.Insertion.{all_contains, contains_cases, contains_here, contains_none, contains_there}
use Rattle.mv_ways.specs.declared.provenances.Provenance.{Provenance}
use Rattle.mv_ways.specs.declared.provenances.Provenance.TheVariants.{Stated, Lent, Field, Returned}
use Rattle.mv_ways.specs.declared.provenances.under.leading.Mark.{Mark}
use Rattle.mv_ways.specs.Provenances.{are_earlier, goes_below}
use Rattle.mv_ways.specs.Going.{AreLeading, IsDerived, IsGiven, IsReturned, LeadsTo, does_lead, given, goes_over, original, was_given}
use Rattle.mv_ways.proofs.ProvenanceGraph.Terms.{AreMarked, LeadsBy}
use Rattle.mv_ways.proofs.ProvenanceGraph.Terms.LeadsBy.{at_end, by_copy, by_return}
use Rattle.mv_ways.specs.Going.LeadsTo.{itself, by_derived, by_given}
use Rattle.mv_ways.proofs.ProvenanceGraph.Listing.{earlier_at}

-- a number among others
pub contains_number : (ns : List ℕ) (n : ℕ) → list_any (λ m. m == n) ns ≡ true → Contains ns n
contains_number [] n h = absurd (true≢false (sym h))
contains_number (m ∷ ns) n h = elim (or_cases (m == n) (list_any (λ j. j == n) ns) h) [
  | inl g ↦ subst (λ j. Contains (m ∷ ns) j) (eqb-true m n g) (contains_here m ns)
  | inr g ↦ contains_there m ns n (contains_number ns n g)
]

pub number_among : (ns : List ℕ) (n : ℕ) → Contains ns n → list_any (λ m. m == n) ns ≡ true
number_among [] n c = absurd (contains_none n c)
number_among (m ∷ ns) n c = elim (contains_cases m ns n c) [
  | inl same ↦ or_left (m == n) (list_any (λ j. j == n) ns) (eq-eqb m n same)
  | inr d ↦ or_right (m == n) (list_any (λ j. j == n) ns) (number_among ns n d)
]

-- a copy or a field is behind its original
derived_later : (provenances : List Provenance) (place child : ℕ) (provenance : Provenance) → are_earlier 0 provenances ≡ true → IsDerived provenances place child provenance → place < child
derived_later provenances place child provenance e d = by_provenance provenance (earlier_at provenances 0 e child provenance d.at) d.over
  where
    by_provenance : (w : Provenance) → goes_below (0 + child) w ≡ true → original w ≡ Some place → place < child
    by_provenance (Stated origins) b o = absurd (none-some place o)
    by_provenance (Lent source None) b o = absurd (none-some place o)
    by_provenance (Lent source (Some over)) b o = let same = same_Some over place o in omega (arith, ltb-true over (0 + child) b, same)
    by_provenance (Field over position) b o = let same = same_Some over place o in omega (arith, ltb-true over (0 + child) b, same)
    by_provenance (Returned provenances) b o = absurd (none-some place o)

-- what a function had is earlier than what it returned
given_later : (provenances : List Provenance) (place child : ℕ) (provenance : Provenance) → are_earlier 0 provenances ≡ true → IsGiven provenances place child provenance → place < child
given_later provenances place child provenance e d = by_provenance provenance (earlier_at provenances 0 e child provenance d.at) d.has
  where
    by_provenance : (w : Provenance) → goes_below (0 + child) w ≡ true → Contains (given w) place → place < child
    by_provenance (Stated origins) b c = absurd (contains_none place c)
    by_provenance (Lent source over) b c = absurd (contains_none place c)
    by_provenance (Field over position) b c = absurd (contains_none place c)
    by_provenance (Returned givers) b c = let below = ltb-true place (0 + child) (all_contains (λ k. ltb k (0 + child)) givers.items place b c) in omega (arith, below)

-- and is there
pub returned_within : (provenances : List Provenance) (last : ℕ) → are_earlier 0 provenances ≡ true → (k : ℕ) → IsReturned provenances last 0 k → k < length provenances
returned_within provenances last e k r = let before = given_later provenances k r.child r.provenance e r.giving in let inside = slice_get_within provenances r.child r.provenance r.giving.at in omega (arith, before, inside)

-- which provenances the provenance at a place goes over
copy_over : (o : Option ℕ) (n : ℕ) → option_map_or (λ over. over == n) o false ≡ true → o ≡ Some n
copy_over None n h = absurd (true≢false (sym h))
copy_over (Some over) n h = ap Some (eqb-true over n h)

over_copy : (o : Option ℕ) (n : ℕ) → o ≡ Some n → option_map_or (λ over. over == n) o false ≡ true
over_copy None n h = absurd (none-some n h)
over_copy (Some over) n h = eq-eqb over n (same_Some over n h)

module _ (provenances : List Provenance) (last : ℕ) (earlier : are_earlier 0 provenances ≡ true) where
  -- what leads there isn't behind it
  pub leads_before : {place : ℕ} → LeadsTo provenances last place → place ≤ last
  leads_before itself = omega arith
  leads_before (by_derived {place = place} {child = child} {provenance = provenance} d l) = let less = derived_later provenances place child provenance earlier d in let more = leads_before l in omega (arith, less, more)
  leads_before (by_given {place = place} {child = child} {provenance = provenance} d l) = let less = given_later provenances place child provenance earlier d in let more = leads_before l in omega (arith, less, more)

  -- what can be told so leads there
  pub leads_from_by : (from place : ℕ) → LeadsBy provenances last from place → LeadsTo provenances last place
  leads_from_by from place (at_end h) = subst (LeadsTo provenances last) (sym h) itself
  leads_from_by from place (by_copy child provenance above d l) = by_derived d l
  leads_from_by from place (by_return r) = by_given r.giving r.leading

  -- and it can be told from the provenances behind it
  pub leads_by : {place : ℕ} (from : ℕ) → from ≤ place + 1 → LeadsTo provenances last place → LeadsBy provenances last from place
  leads_by from h itself = at_end refl
  leads_by from h (by_derived {place = place} {child = child} {provenance = provenance} d l) = let less = derived_later provenances place child provenance earlier d in by_copy child provenance (omega (arith, less, h)) d l
  leads_by from h (by_given {place = place} {child = child} {provenance = provenance} d l) =
      let less = given_later provenances place child provenance earlier d in
      by_return (record { child = child; provenance = provenance; behind = omega (arith, less, h); giving = d; leading = l })

  -- at first the last one alone is marked
  pub marked_first : (marks : List Mark) → length marks ≡ length provenances → ((k : ℕ) (d : Mark) → k < length marks → does_lead (get_or marks k d) ≡ (k == last))
      → ((k : ℕ) (d : Mark) → k < length marks → was_given (get_or marks k d) ≡ false) → AreMarked provenances last (last + 1) marks
  marked_first marks room leads returned = record {
    leads = λ k d inside. (λ h. at_end (eqb-true k last (sym (leads k d (omega (arith, inside, room))) ∙ h)), λ by. leads k d (omega (arith, inside, room)) ∙ alone k by);
    returned = λ k d inside. (λ h. absurd (true≢false (sym h ∙ returned k d (omega (arith, inside, room)))), λ r. none_behind k r);
  }
    where
      none_behind : {P : Type 0} (k : ℕ) → IsReturned provenances last (last + 1) k → P
      none_behind k r = let more = leads_before r.leading in let behind = r.behind in absurd (omega (arith, more, behind))

      alone : (k : ℕ) → LeadsBy provenances last (last + 1) k → (k == last) ≡ true
      alone k (at_end h) = eq-eqb k last h
      alone k (by_copy child provenance above d l) = let more = leads_before l in absurd (omega (arith, more, above))
      alone k (by_return r) = none_behind k r

  module _ (place : ℕ) (provenance : Provenance) (at : slice_get provenances place ≡ Some provenance) where
    same_provenance : (child : ℕ) (w : Provenance) → child ≡ place → slice_get provenances child ≡ Some w → w ≡ provenance
    same_provenance child w same h = same_Some w provenance (sym h ∙ ap (slice_get provenances) same ∙ at)

    returned_later : (k : ℕ) → IsReturned provenances last (place + 1) k → IsReturned provenances last place k
    returned_later k r = record { child = r.child; provenance = r.provenance; behind = let more = r.behind in omega (arith, more); giving = r.giving; leading = r.leading }

    leads_later : (k : ℕ) → LeadsBy provenances last (place + 1) k → LeadsBy provenances last place k
    leads_later k (at_end h) = at_end h
    leads_later k (by_copy child w above d l) = by_copy child w (omega (arith, above)) d l
    leads_later k (by_return r) = by_return (returned_later k r)

    -- what is told from one place further on, or by the provenance at the place
    returned_cases : (k : ℕ) → IsReturned provenances last place k → IsReturned provenances last (place + 1) k ⊎ (Contains (given provenance) k × LeadsTo provenances last place)
    returned_cases k r = elim (cases_lt place r.child) [
      | inl later ↦ inl (record { child = r.child; provenance = r.provenance; behind = omega (arith, later); giving = r.giving; leading = r.leading })
      | inr here ↦
          let behind = r.behind in
          let same : r.child ≡ place = omega (arith, here, behind) in
          inr (subst (λ w. Contains (given w) k) (same_provenance r.child r.provenance same r.giving.at) r.giving.has, subst (LeadsTo provenances last) same r.leading)
    ]

    leads_cases : (k : ℕ) → LeadsBy provenances last place k → LeadsBy provenances last (place + 1) k ⊎ (((original provenance ≡ Some k) ⊎ Contains (given provenance) k) × LeadsTo provenances last place)
    leads_cases k (at_end h) = inl (at_end h)
    leads_cases k (by_copy child w above d l) = elim (cases_lt place child) [
      | inl later ↦ inl (by_copy child w (omega (arith, later)) d l)
      | inr here ↦
          let same : child ≡ place = omega (arith, here, above) in
          inr (inl (subst (λ v. original v ≡ Some k) (same_provenance child w same d.at) d.over), subst (LeadsTo provenances last) same l)
    ]
    leads_cases k (by_return r) = elim (returned_cases k r) [ inl later ↦ inl (by_return later) | inr here ↦ inr (inr here.0, here.1) ]

    -- a provenance that doesn't lead there says nothing of those it goes over
    pub marked_kept : (marks : List Mark) (d : Mark) → place < length provenances → does_lead (get_or marks place d) ≡ false → AreMarked provenances last (place + 1) marks → AreMarked provenances last place marks
    marked_kept marks d within unled marked = record {
      leads = λ k e inside. (λ h. leads_later k ((marked.leads k e inside).0 h), λ by. elim (leads_cases k by) [ inl later ↦ (marked.leads k e inside).1 later | inr here ↦ absurd (not_here here.1) ]);
      returned = λ k e inside. (λ h. returned_later k ((marked.returned k e inside).0 h), λ r. elim (returned_cases k r) [ inl later ↦ (marked.returned k e inside).1 later | inr here ↦ absurd (not_here here.1) ]);
    }
      where
        not_here : LeadsTo provenances last place → ⊥
        not_here l = true≢false (sym ((marked.leads place d within).1 (leads_by (place + 1) (omega arith) l)) ∙ unled)

    -- one that does passes it on
    pub marked_over : (old new : List Mark) (d : Mark) → place < length provenances → length old ≡ length provenances → does_lead (get_or old place d) ≡ true
        → ((k : ℕ) (e : Mark) → k < length old → does_lead (get_or new k e) ≡ (does_lead (get_or old k e) || goes_over provenance k))
        → ((k : ℕ) (e : Mark) → k < length old → was_given (get_or new k e) ≡ (was_given (get_or old k e) || list_any (λ over. over == k) (given provenance)))
        → AreMarked provenances last (place + 1) old → AreMarked provenances last place new
    marked_over old new d within room led leads returned marked = record {
      leads = λ k e inside. (λ h. to_leads k e inside (sym (leads k e (omega (arith, inside, room))) ∙ h), λ by. leads k e (omega (arith, inside, room)) ∙ from_leads k e inside (leads_cases k by));
      returned = λ k e inside. (λ h. to_returned k e inside (sym (returned k e (omega (arith, inside, room))) ∙ h), λ r. returned k e (omega (arith, inside, room)) ∙ from_returned k e inside (returned_cases k r));
    }
      where
        here_leads : LeadsTo provenances last place
        here_leads = leads_from_by (place + 1) place ((marked.leads place d within).0 led)

        here_returned : (k : ℕ) → Contains (given provenance) k → IsReturned provenances last place k
        here_returned k c = record { child = place; provenance = provenance; behind = omega arith; giving = record { at = at; has = c }; leading = here_leads }

        to_leads : (k : ℕ) (e : Mark) → k < length provenances → (does_lead (get_or old k e) || goes_over provenance k) ≡ true → LeadsBy provenances last place k
        to_leads k e inside h = elim (or_cases (does_lead (get_or old k e)) (goes_over provenance k) h) [
          | inl g ↦ leads_later k ((marked.leads k e inside).0 g)
          | inr g ↦ elim (or_cases (option_map_or (λ over. over == k) (original provenance) false) (list_any (λ over. over == k) (given provenance)) g) [
            | inl o ↦ by_copy place provenance (omega arith) (record { at = at; over = copy_over (original provenance) k o }) here_leads
            | inr c ↦ by_return (here_returned k (contains_number (given provenance) k c))
          ]
        ]

        from_leads : (k : ℕ) (e : Mark) → k < length provenances → LeadsBy provenances last (place + 1) k ⊎ (((original provenance ≡ Some k) ⊎ Contains (given provenance) k) × LeadsTo provenances last place)
            → (does_lead (get_or old k e) || goes_over provenance k) ≡ true
        from_leads k e inside (inl later) = or_left (does_lead (get_or old k e)) (goes_over provenance k) ((marked.leads k e inside).1 later)
        from_leads k e inside (inr here) = or_right (does_lead (get_or old k e)) (goes_over provenance k) (over here.0)
          where
            over : (original provenance ≡ Some k) ⊎ Contains (given provenance) k → goes_over provenance k ≡ true
            over (inl o) = or_left (option_map_or (λ j. j == k) (original provenance) false) (list_any (λ j. j == k) (given provenance)) (over_copy (original provenance) k o)
            over (inr c) = or_right (option_map_or (λ j. j == k) (original provenance) false) (list_any (λ j. j == k) (given provenance)) (number_among (given provenance) k c)

        to_returned : (k : ℕ) (e : Mark) → k < length provenances → (was_given (get_or old k e) || list_any (λ over. over == k) (given provenance)) ≡ true → IsReturned provenances last place k
        to_returned k e inside h = elim (or_cases (was_given (get_or old k e)) (list_any (λ over. over == k) (given provenance)) h) [
          | inl g ↦ returned_later k ((marked.returned k e inside).0 g)
          | inr g ↦ here_returned k (contains_number (given provenance) k g)
        ]

        from_returned : (k : ℕ) (e : Mark) → k < length provenances → IsReturned provenances last (place + 1) k ⊎ (Contains (given provenance) k × LeadsTo provenances last place)
            → (was_given (get_or old k e) || list_any (λ over. over == k) (given provenance)) ≡ true
        from_returned k e inside (inl later) = or_left (was_given (get_or old k e)) (list_any (λ over. over == k) (given provenance)) ((marked.returned k e inside).1 later)
        from_returned k e inside (inr here) = or_right (was_given (get_or old k e)) (list_any (λ over. over == k) (given provenance)) (number_among (given provenance) k here.0)

  -- at last all that lead there are marked
  pub marked_all : (marks : List Mark) → AreMarked provenances last 0 marks → AreLeading provenances last marks
  marked_all marks marked = record {
    leads = λ k d inside. (λ h. leads_from_by 0 k ((marked.leads k d inside).0 h), λ l. (marked.leads k d inside).1 (leads_by 0 (omega arith) l));
    returned = marked.returned;
  }

-- ---- what leads to a provenance leads to the one that it is derived from

abbrev pub LeadsBehind : List Provenance → Option ℕ → ℕ → Type 0
LeadsBehind provenances None k = ⊥
LeadsBehind provenances (Some over) k = LeadsTo provenances over k

abbrev pub ReturnedBehind : List Provenance → Option ℕ → ℕ → Type 0
ReturnedBehind provenances None k = ⊥
ReturnedBehind provenances (Some over) k = IsReturned provenances over 0 k

-- or is the provenance itself, if a function was given nothing that it returned there
module _ (provenances : List Provenance) (place : ℕ) (provenance : Provenance) (at : slice_get provenances place ≡ Some provenance) (none : given provenance ≡ []) where
  none_given : {P : Type 0} (child k : ℕ) (w : Provenance) → child ≡ place → IsGiven provenances k child w → P
  none_given child k w same d =
      let here : w ≡ provenance = same_Some w provenance (sym d.at ∙ ap (slice_get provenances) same ∙ at) in
      absurd (contains_none k (subst (λ ns. Contains ns k) (ap given here ∙ none) d.has))

  behind_more : (o : Option ℕ) (j k : ℕ) → ((over : ℕ) → LeadsTo provenances over j → LeadsTo provenances over k) → LeadsBehind provenances o j → LeadsBehind provenances o k
  behind_more None j k more l = l
  behind_more (Some over) j k more l = more over l

  leads_behind : {k : ℕ} → LeadsTo provenances place k → (k ≡ place) ⊎ LeadsBehind provenances (original provenance) k
  leads_behind itself = inl refl
  leads_behind (by_derived {place = k} {child = child} {provenance = w} d l) = elim (leads_behind l) [
    | inl same ↦
        let here : w ≡ provenance = same_Some w provenance (sym d.at ∙ ap (slice_get provenances) same ∙ at) in
        inr (subst (λ o. LeadsBehind provenances o k) (sym (sym (ap original here) ∙ d.over)) itself)
    | inr behind ↦ inr (behind_more (original provenance) child k (λ over more. by_derived d more) behind)
  ]
  leads_behind (by_given {place = k} {child = child} {provenance = w} d l) = elim (leads_behind l) [
    | inl same ↦ none_given child k w same d
    | inr behind ↦ inr (behind_more (original provenance) child k (λ over more. by_given d more) behind)
  ]

  pub returned_behind : (k : ℕ) → IsReturned provenances place 0 k → ReturnedBehind provenances (original provenance) k
  returned_behind k r = elim (leads_behind r.leading) [
    | inl same ↦ none_given r.child k r.provenance same r.giving
    | inr behind ↦ by_case (original provenance) behind
  ]
    where
      by_case : (o : Option ℕ) → LeadsBehind provenances o r.child → ReturnedBehind provenances o k
      by_case None l = l
      by_case (Some over) l = record { child = r.child; provenance = r.provenance; behind = r.behind; giving = r.giving; leading = l }
