-- Some of the structs with key, one after the other: in which order they stand, and what is stored of them.
use Rattle.mv_saved_text.proofs.Common.{[], ◌++◌, ◌+◌, ◌-◌, ◌<◌, ◌∙◌, ◌∷◌, ◌≡◌, ◌≤◌, Bool, Err, List, Ok, Result, ap, arith, cond, drop, eq-eqb, false, flat_map, get_or, le-leb, length, lt-ltb}
use Rattle.mv_saved_text.proofs.Common.{map, refl, subst, suc, sym, true, zero, ℕ, and_from, false≢true, AllByRecursion, filter, ◌&&◌, ◌==◌, nat_le, nat_lt, IfOk, IsSome, Global, Vec}
use Rattle.mv_saved_text.proofs.Common.{Module, Definition, FlatEntry, Storage, some-of, AreSections, definition_at, section_at, sections_of, stored_in, addressed_text, is_under, keyed_from, keyed_indices, Section}
use Rattle.std.specs.Prelude.{slice_range}
use Rattle.std.proofs.lemmas.Bool.{or_left, or_right}
use Rattle.std.proofs.lemmas.List.{get_or-drop, get_or-take, length-take}
use Rattle.std.proofs.lemmas.List.Elements.{All-from_get_or}
use Rattle.mv_saved_text.specs.Parts.Saving.{is_between, is_by, stored_between, struct_under, HasSection, HaveSections}
use Rattle.mv_ledger_state.proofs.Lists.{all-append}
use Rattle.mv_saved_text.proofs.Loads.BodyKeyed.{placed, IsUp, keyed-low, keyed-up}
use Rattle.mv_saved_text.proofs.Saves.Filling.{read}
use Rattle.mv_saved_text.proofs.Saves.Written.{each-at, keyed-defined-at}
use Rattle.mv_frames.proofs.Counts.{definition-to}

-- ---- the structs with key stand by place and index

by-place : (d e : Definition) → d.place < e.place → is_by d e ≡ true
by-place d e lt = or_left (nat_lt d.place e.place) ((d.place == e.place) && nat_le d.index e.index) (lt-ltb d.place e.place lt)

by-index : (d e : Definition) → d.place ≡ e.place → d.index ≤ e.index → is_by d e ≡ true
by-index d e same le =
    or_right (nat_lt d.place e.place) ((d.place == e.place) && nat_le d.index e.index) (and_from (d.place == e.place) (nat_le d.index e.index) (eq-eqb d.place e.place same) (le-leb d.index e.index le))

-- each stands before those that follow
abbrev Rises : List Definition → Type 0
Rises [] = Unit {0}
Rises (d ∷ ds) = AllByRecursion (λ e. is_by d e ≡ true) ds × Rises ds

row-by : (place i : ℕ) (is : List ℕ) → AllByRecursion (λ j. i < j) is → AllByRecursion (λ e. is_by (record { place = place; index = i }) e ≡ true) (placed place is)
row-by place i [] h = tt
row-by place i (j ∷ is) h = (by-index (record { place = place; index = i }) (record { place = place; index = j }) refl (omega (arith, h.0)), row-by place i is h.1)

above-by : (place i : ℕ) (ds : List Definition) → AllByRecursion (λ (d : Definition). place + 1 ≤ d.place) ds → AllByRecursion (λ e. is_by (record { place = place; index = i }) e ≡ true) ds
above-by place i [] h = tt
above-by place i (d ∷ ds) h = (by-place (record { place = place; index = i }) d (omega (arith, h.0)), above-by place i ds h.1)

rises-append : (place : ℕ) (is : List ℕ) (ds : List Definition) → IsUp is → AllByRecursion (λ (d : Definition). place + 1 ≤ d.place) ds → Rises ds → Rises (placed place is ++ ds)
rises-append place [] ds up above h = h
rises-append place (i ∷ is) ds up above h = (
  all-append (λ e. is_by (record { place = place; index = i }) e ≡ true) (placed place is) ds (row-by place i is up.0) (above-by place i ds above),
  rises-append place is ds up.1 above h,
)

keyed-rises : (place : ℕ) (ms : List Module) → Rises (keyed_from place ms)
keyed-rises place [] = tt
keyed-rises place (m ∷ ms) = rises-append place (keyed_indices m) (keyed_from (place + 1) ms) (keyed-up m 0 m.structs) (keyed-low (place + 1) ms) (keyed-rises (place + 1) ms)

rises-at : (ds : List Definition) (k l : ℕ) (e : Definition) → Rises ds → k ≤ l → l < length ds → is_by (get_or ds k e) (get_or ds l e) ≡ true
rises-at [] k l e h le lt = absurd (omega (arith, lt))
rises-at (d ∷ ds) zero zero e h le lt = by-index d d refl (omega arith)
rises-at (d ∷ ds) zero (suc l) e h le lt = each-at (λ x. is_by d x ≡ true) ds l e (omega (arith, lt)) h.0
rises-at (d ∷ ds) (suc k) zero e h le lt = absurd (omega (arith, le))
rises-at (d ∷ ds) (suc k) (suc l) e h le lt = rises-at ds k l e h.1 (omega (arith, le)) (omega (arith, lt))

-- ---- what is stored of one of them

module _ (modules : List Module) where
  module _ (d : Definition) where
    -- a value that is left out is none of the struct
    one-more : (b : Bool) (e : FlatEntry) (some : List FlatEntry) (own : Storage) → (is_under d (read modules e) ≡ true → b ≡ true) → filter (is_under d) (map (read modules) some) ≡ own
        → filter (is_under d) (map (read modules) (cond b (e ∷ some) some)) ≡ cond (is_under d (read modules e)) (read modules e ∷ own) own
    one-more true e some own in_them same = ap (λ (l : Storage). cond (is_under d (read modules e)) (read modules e ∷ l) l) same
    one-more false e some own in_them same = other (is_under d (read modules e)) refl
      where
        other : (c : Bool) → is_under d (read modules e) ≡ c → filter (is_under d) (map (read modules) some) ≡ cond c (read modules e ∷ own) own
        other true is = absurd (false≢true (in_them is))
        other false is = same

    -- the values of a struct between two others are among those of the structs from one to the other
    stored-same : (first last : Definition) → is_between first last d ≡ true → (es : List FlatEntry) → stored_in modules (stored_between first last es) d ≡ stored_in modules es d
    stored-same first last is [] = refl
    stored-same first last is (e ∷ es) =
        one-more (is_between first last (struct_under e.key)) e (stored_between first last es) (stored_in modules es d)
        (λ own. ap (is_between first last) (definition-to (struct_under e.key) d own) ∙ is) (stored-same first last is es)

  -- its section among theirs is its own
  has-section : (first last : Definition) (entries : List FlatEntry) (rows : List (List Section)) (d : Definition) → AreSections modules (stored_between first last entries) rows
      → is_between first last d ≡ true → IsSome (definition_at modules d) → HasSection modules entries rows d
  has-section first last entries rows d are between defined =
      let s = some-of (section_at rows d) (are.there d defined) in
      let own = are.each d s.0 s.1 in
      let same : stored_in modules (stored_between first last entries) d ≡ stored_in modules entries d = stored-same d first last between entries in
      record { section = s.0; section_is = s.1; is = record { count = own.count ∙ ap length same; text = own.text ∙ ap (flat_map addressed_text) same; known = own.known } }

  -- ---- what is stored of all of them

  module _ (ds : List Definition) (ds_are : ds ≡ keyed_from 0 modules) (i j : ℕ) (e : Definition) where
    between-at : (k : ℕ) → i ≤ k → k < j → j ≤ length ds → is_between (get_or ds i e) (get_or ds (j - 1) e) (get_or ds k e) ≡ true
    between-at k low high within =
        let up : Rises ds = subst Rises (sym ds_are) (keyed-rises 0 modules) in
        and_from (is_by (get_or ds i e) (get_or ds k e)) (is_by (get_or ds k e) (get_or ds (j - 1) e)) (rises-at ds i k e up low (omega (arith, high, within)))
        (rises-at ds k (j - 1) e up (omega (arith, high)) (omega (arith, high, within)))

    defined-at : (k : ℕ) → k < length ds → IsSome (definition_at modules (get_or ds k e))
    defined-at k lt =
        subst (λ (l : List Definition). IsSome (definition_at modules (get_or l k e))) (sym ds_are) (keyed-defined-at modules k e (subst (λ (l : List Definition). k < length l) ds_are lt))

    have-sections : (entries : List FlatEntry) (rows : List (List Section)) → j ≤ length ds → AreSections modules (stored_between (get_or ds i e) (get_or ds (j - 1) e) entries) rows
        → HaveSections modules entries rows (slice_range ds i j)
    have-sections entries rows within are = All-from_get_or (HasSection modules entries rows) (slice_range ds i j) e (λ k lt.
        let low : k < j - i = omega (arith, lt, length-take (j - i) (drop i ds)) in
        let at : get_or (slice_range ds i j) k e ≡ get_or ds (i + k) e = get_or-take (j - i) (drop i ds) k e low ∙ get_or-drop i ds k e in
        subst (HasSection modules entries rows) (sym at)
        (has-section (get_or ds i e) (get_or ds (j - 1) e) entries rows (get_or ds (i + k) e) are (between-at (i + k) (omega arith) (omega (arith, low)) within)
        (defined-at (i + k) (omega (arith, low, within)))))

    -- if memory did not run out
    pub sections-so : {E : Type 0} (r : Result (Vec (Vec Section Global) Global) E) (entries : List FlatEntry) → j ≤ length (keyed_from 0 modules)
        → IfOk r (λ v. AreSections modules (stored_between (get_or ds i e) (get_or ds (j - 1) e) entries) (sections_of v.items))
        → IfOk r (λ v. HaveSections modules entries (sections_of v.items) (slice_range (keyed_from 0 modules) i j))
    sections-so (Ok v) entries within are =
        subst (λ (l : List Definition). HaveSections modules entries (sections_of v.items) (slice_range l i j)) ds_are
        (have-sections entries (sections_of v.items) (subst (λ (l : List Definition). j ≤ length l) (sym ds_are) within) are)
    sections-so (Err x) entries within are = tt
