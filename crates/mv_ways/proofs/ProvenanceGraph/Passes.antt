-- What is noted of a provenance says which labels behind it pass.
use Rattle.mv_edges.proofs.Common.{[], ℕ, ◌&&◌, ◌||◌, ◌++◌, ◌<◌, ◌∙◌, ◌∷◌, ◌≡◌, Bool, List, None, Option, Some, ap, append-nil, append_assoc, cond, eqb, false, flat_map, length, list_any, map, refl, sym, true}
use Rattle.mv_edges.proofs.Common.{list_any-append, slice_get, option_map_or, Node, Edge, Label, extended, opened, here, agrees_if, composed, is_here, true≢false, eqb-true, arith}
use Rattle.mv_ways.specs.Between.{any_between}
use Rattle.std.specs.Prelude.{nat_lt}
use Rattle.mv_edges.proofs.Common.{◌+◌, zero, suc, list_all, and_parts, ltb-true, flat_map-append, drop, get_or, subst, take, take-append-drop, take_more}
use Rattle.mv_edges.proofs.Comparisons.{agrees_first}
use Rattle.mv_edges.proofs.Any.{list_any-alike}
use Rattle.mv_ways.specs.declared.provenances.Reference.{Reference}
use Rattle.mv_ways.specs.Origins.{Origin}
use Rattle.mv_ways.specs.declared.provenances.Provenance.{Provenance}
use Rattle.mv_ways.specs.declared.provenances.Provenance.TheVariants.{Lent, Field}
use Rattle.mv_ways.specs.Provenances.{ProvenanceGraph, an_origin, all_origins, changed_origins, goes_below, origins_of, edges_of, origin_edges, origins_at, reference_edges, source_at}
use Rattle.mv_ways.specs.Asking.{SaysOf, comes_from, extended_passing, is_asked, larger, origins_pass, lets_pass, opened_passing}
use Rattle.mv_ways.specs.declared.provenances.questions.Passing.{Passing}
use Rattle.mv_ways.specs.declared.provenances.questions.Passing.TheVariants.{Never, Here, Always}

-- ---- labels behind one another

-- a label of these parts
abbrev label_of : List ℕ → Bool → Label
label_of path is_open = record { path = path; is_open = is_open }

-- one position more is one before what is behind
pub composed-extended : (f : ℕ) (l behind : Label) → composed (extended f l) behind ≡ composed l (label_of (f ∷ behind.path) behind.is_open)
composed-extended f l behind = by_open l.is_open l.path
  where
    by_open : (o : Bool) (p : List ℕ) → composed (extended f (label_of p o)) behind ≡ composed (label_of p o) (label_of (f ∷ behind.path) behind.is_open)
    by_open true p = refl
    by_open false p = ap (λ q. label_of q behind.is_open) (append_assoc p (f ∷ []) behind.path)

-- whether a label agrees is told by its first position
agrees_by_path : (position : Option ℕ) (a b : Label) → slice_get a.path 0 ≡ slice_get b.path 0 → agrees_if position a ≡ agrees_if position b
agrees_by_path None a b h = refl
agrees_by_path (Some f) a b h = agrees_first f a ∙ ap (λ o. option_map_or (λ p. eqb p f) o true) h ∙ sym (agrees_first f b)

-- and is the same of one with nothing behind
agrees-alone : (position : Option ℕ) (l : Label) → agrees_if position (composed l here) ≡ agrees_if position l
agrees-alone position l = agrees_by_path position (composed l here) l (by_open l.is_open l.path)
  where
    by_open : (o : Bool) (p : List ℕ) → slice_get (composed (label_of p o) here).path 0 ≡ slice_get p 0
    by_open true p = refl
    by_open false p = ap (λ q. slice_get q 0) (append-nil p)

-- and of one that is opened, whatever is behind
agrees-opened : (position : Option ℕ) (l behind : Label) → agrees_if position (composed (opened l) behind) ≡ agrees_if position (composed l here)
agrees-opened position l behind = agrees_by_path position (composed (opened l) behind) (composed l here) (by_open l.is_open l.path)
  where
    by_open : (o : Bool) (p : List ℕ) → slice_get p 0 ≡ slice_get (composed (label_of p o) here).path 0
    by_open true p = refl
    by_open false p = ap (λ q. slice_get q 0) (sym (append-nil p))

-- a field before what is behind
asked_before : (position : Option ℕ) (f : ℕ) (behind : Label) → agrees_if position (label_of (f ∷ behind.path) behind.is_open) ≡ is_asked position f
asked_before None f behind = refl
asked_before (Some g) f behind = agrees_first g (label_of (f ∷ behind.path) behind.is_open)

-- ---- what is noted

module _ (sources : List (Option Node)) (from : Node → Bool) (position : Option ℕ) where
  abbrev Says : Passing → List Origin → Type 0
  Says p origins = SaysOf sources from position p origins

  larger_passes : (a b : Passing) (behind : Label) → lets_pass position (larger a b) behind ≡ (lets_pass position a behind || lets_pass position b behind)
  larger_passes Never b behind = refl
  larger_passes Here Never behind = by_case (agrees_if position behind)
    where
      by_case : (x : Bool) → x ≡ (x || false)
      by_case true = refl
      by_case false = refl
  larger_passes Here Here behind = by_case (agrees_if position behind)
    where
      by_case : (x : Bool) → x ≡ (x || x)
      by_case true = refl
      by_case false = refl
  larger_passes Here Always behind = by_case (agrees_if position behind)
    where
      by_case : (x : Bool) → true ≡ (x || true)
      by_case true = refl
      by_case false = refl
  larger_passes Always b behind = refl

  pub says_both : (a b : Passing) (ls ks : List Origin) → Says a ls → Says b ks → Says (larger a b) (ls ++ ks)
  says_both a b ls ks h g behind =
      larger_passes a b behind ∙ (λ i. h behind i || g behind i)
      ∙ sym (list_any-append (λ (l : Origin). comes_from sources from l.source && agrees_if position (composed l.label behind)) ls ks)

  -- a lead from elsewhere, or whose source is gone
  pub says_never : (l : Origin) → comes_from sources from l.source ≡ false → Says Never (l ∷ [])
  says_never l h behind = sym (ap (λ b. b && agrees_if position (composed l.label behind) || false) h)

  -- one with no label
  pub says_here : (l : Origin) → comes_from sources from l.source ≡ true → is_here l.label ≡ true → Says Here (l ∷ [])
  says_here l h g behind =
      sym ((λ i. h i && agrees_if position (composed l.label behind) || false) ∙ plain (agrees_if position (composed l.label behind)) ∙ same l.label.path l.label.is_open g)
    where
      plain : (b : Bool) → (b || false) ≡ b
      plain true = refl
      plain false = refl

      same : (p : List ℕ) (o : Bool) → is_here (label_of p o) ≡ true → agrees_if position (composed (label_of p o) behind) ≡ agrees_if position behind
      same [] false e = refl
      same [] true e = absurd (true≢false (sym e))
      same (x ∷ p) true e = absurd (true≢false (sym e))
      same (x ∷ p) false e = let none = eqb-true (length (x ∷ p)) 0 e in absurd (omega (arith, none))

  -- one with a label, which agrees or doesn't whatever is behind
  labelled : (l behind : Label) → is_here l ≡ false → agrees_if position (composed l behind) ≡ agrees_if position l
  labelled l behind g = agrees_by_path position (composed l behind) l (by_label l.path l.is_open g)
    where
      by_label : (p : List ℕ) (o : Bool) → is_here (label_of p o) ≡ false → slice_get (composed (label_of p o) behind).path 0 ≡ slice_get p 0
      by_label p true e = refl
      by_label [] false e = absurd (true≢false e)
      by_label (x ∷ p) false e = refl

  pub says_always : (l : Origin) → comes_from sources from l.source ≡ true → is_here l.label ≡ false → agrees_if position l.label ≡ true → Says Always (l ∷ [])
  says_always l h g a behind = sym (λ i. h i && (labelled l.label behind g ∙ a) i || false)

  pub says_not : (l : Origin) → is_here l.label ≡ false → agrees_if position l.label ≡ false → Says Never (l ∷ [])
  says_not l g a behind = sym ((λ i. comes_from sources from l.source && (labelled l.label behind g ∙ a) i || false) ∙ none (comes_from sources from l.source))
    where
      none : (b : Bool) → (b && false || false) ≡ false
      none true = refl
      none false = refl

  -- what is always let pass hides the others
  pub says_enough : (ls ks : List Origin) → Says Always ls → Says Always (ls ++ ks)
  says_enough ls ks h behind =
      (λ i. h behind i || origins_pass sources from position behind ks) ∙ sym (list_any-append (λ (l : Origin). comes_from sources from l.source && agrees_if position (composed l.label behind)) ls ks)

  list_any-map : (q : Origin → Bool) (h : Origin → Origin) (ls : List Origin) → list_any q (map h ls) ≡ list_any (λ l. q (h l)) ls
  list_any-map q h [] = refl
  list_any-map q h (l ∷ ls) = ap (λ b. q (h l) || b) (list_any-map q h ls)

  -- a field
  extended_passes : (f : ℕ) (p : Passing) (behind : Label) → lets_pass position (extended_passing position f p) behind ≡ lets_pass position p (label_of (f ∷ behind.path) behind.is_open)
  extended_passes f Never behind = refl
  extended_passes f Always behind = refl
  extended_passes f Here behind = by_case (is_asked position f) ∙ sym (asked_before position f behind)
    where
      by_case : (b : Bool) → lets_pass position (cond b Always Never) behind ≡ b
      by_case true = refl
      by_case false = refl

  pub says_extended : (f : ℕ) (p : Passing) (ls : List Origin) → Says p ls → Says (extended_passing position f p) (changed_origins (extended f) ls)
  says_extended f p ls h behind =
      extended_passes f p behind ∙ h (label_of (f ∷ behind.path) behind.is_open)
      ∙ sym (list_any-map (λ (l : Origin). comes_from sources from l.source && agrees_if position (composed l.label behind)) (λ (l : Origin). an_origin l.source (extended f l.label)) ls
      ∙ list_any-alike (λ (l : Origin). comes_from sources from l.source && agrees_if position (composed (extended f l.label) behind))
      (λ (l : Origin). comes_from sources from l.source && agrees_if position (composed l.label (label_of (f ∷ behind.path) behind.is_open)))
      (λ l. ap (λ x. comes_from sources from l.source && agrees_if position x) (composed-extended f l.label behind)) ls)

  -- anything below
  opened_passes : (p : Passing) (behind : Label) → lets_pass position (opened_passing p) behind ≡ lets_pass position p here
  opened_passes Never behind = refl
  opened_passes Always behind = refl
  opened_passes Here behind = by_position position
    where
      by_position : (o : Option ℕ) → true ≡ agrees_if o here
      by_position None = refl
      by_position (Some f) = sym (agrees_first f here)

  pub says_opened : (p : Passing) (ls : List Origin) → Says p ls → Says (opened_passing p) (changed_origins opened ls)
  says_opened p ls h behind =
      opened_passes p behind ∙ h here
      ∙ sym (list_any-map (λ (l : Origin). comes_from sources from l.source && agrees_if position (composed l.label behind)) (λ (l : Origin). an_origin l.source (opened l.label)) ls
      ∙ list_any-alike (λ (l : Origin). comes_from sources from l.source && agrees_if position (composed (opened l.label) behind))
      (λ (l : Origin). comes_from sources from l.source && agrees_if position (composed l.label here))
      (λ l. ap (λ b. comes_from sources from l.source && b) (agrees-opened position l.label behind)) ls)

  -- ---- edges

  abbrev edge_passes : (Node → Bool) → Edge → Bool
  edge_passes to e = from e.from && (agrees_if position e.label && to e.to)

  origin_passes : (to : Node → Bool) (n : Node) (l : Origin) → list_any (edge_passes to) (origin_edges sources n l) ≡ (to n && (comes_from sources from l.source && agrees_if position (composed l.label here)))
  origin_passes to n l = by_source (source_at sources l.source)
    where
      none : (t b : Bool) → false ≡ (t && (false && b))
      none true b = refl
      none false b = refl

      one : (t f b : Bool) → (f && (b && t) || false) ≡ (t && (f && b))
      one true true true = refl
      one true true false = refl
      one true false b = refl
      one false true true = refl
      one false true false = refl
      one false false b = refl

      by_source : (o : Option Node) → list_any (edge_passes to) (option_map_or (λ m. record { from = m; label = l.label; to = n } ∷ []) o [])
          ≡ (to n && (option_map_or from o false && agrees_if position (composed l.label here)))
      by_source None = none (to n) (agrees_if position (composed l.label here))
      by_source (Some m) = one (to n) (from m) (agrees_if position l.label) ∙ ap (λ b. to n && (from m && b)) (sym (agrees-alone position l.label))

  pub origins_edges_pass : (to : Node → Bool) (n : Node) (ls : List Origin) → list_any (edge_passes to) (flat_map (origin_edges sources n) ls) ≡ (to n && origins_pass sources from position here ls)
  origins_edges_pass to n [] = none (to n)
    where
      none : (b : Bool) → false ≡ (b && false)
      none true = refl
      none false = refl
  origins_edges_pass to n (l ∷ ls) =
      list_any-append (edge_passes to) (origin_edges sources n l) (flat_map (origin_edges sources n) ls)
      ∙ (λ i. origin_passes to n l i || origins_edges_pass to n ls i)
      ∙ spread (to n) (comes_from sources from l.source && agrees_if position (composed l.label here)) (origins_pass sources from position here ls)
    where
      spread : (t a b : Bool) → (t && a || t && b) ≡ (t && (a || b))
      spread true a b = refl
      spread false a b = refl

-- an edge leads from some nodes to others where something passes at the provenance of a reference to one of the others
pub between_by_references : (g : ProvenanceGraph) (from to : Node → Bool) (position : Option ℕ)
    → any_between from position to (edges_of g) ≡ list_any (λ (r : Reference). to r.node && origins_pass g.sources from position here (origins_at (all_origins g.provenances) r.provenance)) g.references
between_by_references g from to position = each g.references
  where
    each : (rs : List Reference) → list_any (λ e. from e.from && (agrees_if position e.label && to e.to)) (flat_map (reference_edges g.sources (all_origins g.provenances)) rs)
        ≡ list_any (λ (r : Reference). to r.node && origins_pass g.sources from position here (origins_at (all_origins g.provenances) r.provenance)) rs
    each [] = refl
    each (r ∷ rs) =
        list_any-append (λ (e : Edge). from e.from && (agrees_if position e.label && to e.to)) (reference_edges g.sources (all_origins g.provenances) r) (flat_map (reference_edges g.sources (all_origins g.provenances)) rs)
        ∙ (λ i. origins_edges_pass g.sources from position to r.node (origins_at (all_origins g.provenances) r.provenance) i || each rs i)

-- one origin more of a list
pub says_more : (sources : List (Option Node)) (from : Node → Bool) (position : Option ℕ) (a b both : Passing) (origins : List Origin) (i : ℕ) (l : Origin) → i < length origins → l ≡ get_or origins i l
    → SaysOf sources from position a (take i origins) → SaysOf sources from position b (l ∷ []) → both ≡ larger a b → SaysOf sources from position both (take (i + 1) origins)
says_more sources from position a b both origins i l inside at h g is =
    subst (λ p. SaysOf sources from position p (take (i + 1) origins)) (sym is)
    (subst (SaysOf sources from position (larger a b)) (ap (λ x. take i origins ++ x ∷ []) at ∙ sym (take_more origins i l inside)) (says_both sources from position a b (take i origins) (l ∷ []) h g))

-- where some pass always, the others are nothing to it
pub says_whole : (sources : List (Option Node)) (from : Node → Bool) (position : Option ℕ) (p : Passing) (origins : List Origin) (i : ℕ) → p ≡ Always → SaysOf sources from position p (take i origins)
    → SaysOf sources from position p origins
says_whole sources from position p origins i is h =
    subst (λ q. SaysOf sources from position q origins) (sym is)
    (subst (SaysOf sources from position Always) (take-append-drop i origins)
    (says_enough sources from position (take i origins) (drop i origins) (subst (λ q. SaysOf sources from position q (take i origins)) is h)))

-- a source with no label
pub source_says_never : (sources : List (Option Node)) (from : Node → Bool) (position : Option ℕ) (source : ℕ) → comes_from sources from source ≡ false
    → SaysOf sources from position Never (an_origin source here ∷ [])
source_says_never sources from position source h = says_never sources from position (an_origin source here) h

pub source_says_here : (sources : List (Option Node)) (from : Node → Bool) (position : Option ℕ) (source : ℕ) → comes_from sources from source ≡ true
    → SaysOf sources from position Here (an_origin source here ∷ [])
source_says_here sources from position source h = says_here sources from position (an_origin source here) h refl

-- one provenance more of those that a function returned something of
pub returned_more : (sources : List (Option Node)) (from : Node → Bool) (position : Option ℕ) (listed : List (List Origin)) (a b both : Passing) (provenances : List ℕ) (i : ℕ) → i < length provenances
    → SaysOf sources from position a (flat_map (λ k. changed_origins opened (origins_at listed k)) (take i provenances)) → SaysOf sources from position b (origins_at listed (get_or provenances i 0))
    → both ≡ larger a (opened_passing b) → SaysOf sources from position both (flat_map (λ k. changed_origins opened (origins_at listed k)) (take (i + 1) provenances))
returned_more sources from position listed a b both provenances i inside h g is =
    let f : ℕ → List Origin = λ k. changed_origins opened (origins_at listed k) in
    let over = get_or provenances i 0 in
    let all : flat_map f (take (i + 1) provenances) ≡ flat_map f (take i provenances) ++ f over =
    ap (flat_map f) (take_more provenances i 0 inside) ∙ flat_map-append f (take i provenances) (over ∷ []) ∙ ap (λ ls. flat_map f (take i provenances) ++ ls) (append-nil (f over)) in
    subst (λ p. SaysOf sources from position p (flat_map f (take (i + 1) provenances))) (sym is)
    (subst (SaysOf sources from position (larger a (opened_passing b))) (sym all)
    (says_both sources from position a (opened_passing b) (flat_map f (take i provenances)) (f over) h (says_opened sources from position b (origins_at listed over) g)))

-- a place among those below another one
pub below_at : (provenances : List ℕ) (place i : ℕ) → list_all (λ k. nat_lt k place) provenances ≡ true → i < length provenances → get_or provenances i 0 < place
below_at [] place i all h = absurd (omega (arith, h))
below_at (k ∷ ks) place zero all h = ltb-true k place (and_parts (nat_lt k place) (list_all (λ j. nat_lt j place) ks) all).0
below_at (k ∷ ks) place (suc i) all h = below_at ks place i (and_parts (nat_lt k place) (list_all (λ j. nat_lt j place) ks) all).1 (omega (arith, h))

-- a mutable copy
pub says_copied : (sources : List (Option Node)) (from : Node → Bool) (position : Option ℕ) (listed : List (List Origin)) (provenance : Provenance) (source over place : ℕ) (a b both : Passing)
    → provenance ≡ Lent source (Some over) → (over < place → SaysOf sources from position a (origins_at listed over)) → goes_below place provenance ≡ true
    → SaysOf sources from position b (an_origin source here ∷ []) → both ≡ larger a b → SaysOf sources from position both (origins_of listed provenance)
says_copied sources from position listed provenance source over place a b both is h below g made =
    subst (λ w. SaysOf sources from position both (origins_of listed w)) (sym is)
    (subst (λ p. SaysOf sources from position p (origins_at listed over ++ an_origin source here ∷ [])) (sym made)
    (says_both sources from position a b (origins_at listed over) (an_origin source here ∷ []) (h (ltb-true over place (subst (λ w. goes_below place w ≡ true) is below))) g))

-- a reference to a field
pub says_of_field : (sources : List (Option Node)) (from : Node → Bool) (position : Option ℕ) (listed : List (List Origin)) (provenance : Provenance) (over field place : ℕ) (a made : Passing)
    → provenance ≡ Field over field → (over < place → SaysOf sources from position a (origins_at listed over)) → goes_below place provenance ≡ true → made ≡ extended_passing position field a
    → SaysOf sources from position made (origins_of listed provenance)
says_of_field sources from position listed provenance over field place a made is h below g =
    subst (λ w. SaysOf sources from position made (origins_of listed w)) (sym is)
    (subst (λ p. SaysOf sources from position p (changed_origins (extended field) (origins_at listed over))) (sym g)
    (says_extended sources from position field a (origins_at listed over) (h (ltb-true over place (subst (λ w. goes_below place w ≡ true) is below)))))
