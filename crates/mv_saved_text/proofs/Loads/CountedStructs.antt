-- The values that are stored, counted one after the other under their structs, and then struct by struct at any depth.
use Rattle.mv_saved_text.proofs.Common.{[], ◌*◌, ◌++◌, ◌+◌, ◌<◌, ◌^◌, ◌∙◌, ◌∷◌, ◌≡◌, ◌≤◌, Bool, List, None, Option, Some, ap, ap₂, arith, false, get_or, length, map, refl, subst, suc, sym, take, true}
use Rattle.mv_saved_text.proofs.Common.{zero, ℕ, get_or-map, length-map, map-append, map-set, take_all, take_more, option_map_or, All, replicate}
use Rattle.mv_saved_text.proofs.Common.{slice_set, Global, Vec, Module, name_at, StructName, PublishedModule, Definition, count, FlatEntry, storage_of, IsStore}
use Rattle.mv_saved_text.proofs.Common.{tables_in, fine_words-typed, typed_is_fine, IsFineWords, structs_under, structs_within, structs_in, Adds, AreAll, AreStored, HasRows, capped, count_at}
use Rattle.mv_saved_text.proofs.Common.{no_counts, row_at, with_count, IsOfStore, keyed_from}
use Rattle.std.proofs.lemmas.List.{set_past}
use Rattle.mv_binary_format.proofs.Back.{filter-shorter}
use Rattle.mv_saved_text.specs.Parts.CountRows.{stored_of}
use Rattle.mv_ledger_state.proofs.Accepted.Stores.{accepted_store}
use Rattle.mv_saved_text.proofs.Loads.Adding.{capped-more, own-count, other-count, rows-kept}
use Rattle.mv_saved_text.proofs.Loads.BodyGroups.{own-is, is-own}
use Rattle.mv_saved_text.proofs.Loads.BodyLookups.{is_of}
use Rattle.mv_saved_text.proofs.Loads.BodyStorage.{store-sized}
use Rattle.mv_saved_text.proofs.Loads.CountedStorage.{by_structs, count-by_structs, under-own, under-other}
use Rattle.mv_saved_text.specs.Parts.Saving.{struct_under}

-- ---- counts of the values of structs, as they are made and changed

-- the counts in vectors
abbrev pub rows_in : List (Vec ℕ Global) → List (List ℕ)
rows_in vs = map (λ v. v.items) vs

pub row-is : (modules : List Module) (place : ℕ) → place < length modules → get_or (no_counts modules) place [] ≡ replicate (structs_in modules place) 0
row-is [] place lt = absurd (omega (arith, lt))
row-is (m ∷ ms) zero lt = refl
row-is (m ∷ ms) (suc place) lt = row-is ms place (omega (arith, lt))

-- one more module's
pub rows-more : (modules : List Module) (place : ℕ) (vs after : List (Vec ℕ Global)) (v : Vec ℕ Global) → place < length modules → rows_in vs ≡ take place (no_counts modules) → after ≡ vs ++ v ∷ []
    → v.items ≡ replicate (structs_in modules place) 0 → rows_in after ≡ take (place + 1) (no_counts modules)
rows-more modules place vs after v lt is after_is own =
    let short : place < length (no_counts modules) = omega (arith, lt, length-map modules (λ m. replicate {A = ℕ} (length m.structs) 0)) in
    ap rows_in after_is ∙ map-append (λ (w : Vec ℕ Global). w.items) vs (v ∷ [])
    ∙ ap₂ (λ (xs : List (List ℕ)) (x : List ℕ). xs ++ x ∷ []) is (own ∙ sym (row-is modules place lt))
    ∙ sym (take_more (no_counts modules) place [] short)

-- a count in its module's row
pub rows-put : (vs : List (Vec ℕ Global)) (place index n : ℕ) (v w : Vec ℕ Global) → place < length vs → v ≡ get_or vs place v → w.items ≡ slice_set v.items index n
    → rows_in (slice_set vs place w) ≡ slice_set (rows_in vs) place (slice_set (row_at (rows_in vs) place) index n)
rows-put vs place index n v w lt v_is w_is =
    let here : v.items ≡ row_at (rows_in vs) place = ap (λ (x : Vec ℕ Global). x.items) v_is ∙ sym (get_or-map (λ (x : Vec ℕ Global). x.items) vs place v [] lt) in
    map-set (λ (x : Vec ℕ Global). x.items) vs place w ∙ ap (slice_set (rows_in vs) place) (w_is ∙ ap (λ r. slice_set r index n) here)

pub rows-past : (vs : List (Vec ℕ Global)) (place : ℕ) (row : List ℕ) → length vs ≤ place → rows_in vs ≡ slice_set (rows_in vs) place row
rows-past vs place row le = sym (set_past (rows_in vs) place row (omega (arith, le, length-map vs (λ (x : Vec ℕ Global). x.items))))

-- ---- nothing is counted

module _ (ms : List Module) where
  -- ---- value by value

  -- what is counted, and what is left
  pub record IsCounting (storage left : List FlatEntry) (rows : List (List ℕ)) : Type 0 where
    pub has : HasRows ms rows
    pub counts : (d : Definition) (name : StructName) → name_at ms d.place d.index ≡ Some name → count_at rows d + stored_of left d ≡ stored_of storage d

  below-cap : (n : ℕ) → n < 2 ^ 63 → capped n ≡ n
  below-cap n lt = omega arith

  pub count-more : (storage left rest : List FlatEntry) (rows after : List (List ℕ)) (e : FlatEntry) → left ≡ e ∷ rest → length storage < 2 ^ 63 → IsCounting storage left rows
      → after ≡ with_count rows (struct_under e.key) 1 → IsCounting storage rest after
  count-more storage left rest rows after e at few h added = subst (IsCounting storage rest) (sym added) (record {
    has = rows-kept rows (struct_under e.key) 1 ms h.has;
    counts = λ d name named. by_struct d name named (is_of d e) refl;
  })
    where
      by_struct : (d : Definition) (name : StructName) → name_at ms d.place d.index ≡ Some name → (b : Bool) → is_of d e ≡ b
          → count_at (with_count rows (struct_under e.key) 1) d + stored_of rest d ≡ stored_of storage d
      by_struct d name named true is =
          let own : struct_under e.key ≡ d = own-is d e is in
          let there = h.has d name named in
          let so_far : count_at rows d + stored_of (e ∷ rest) d ≡ stored_of storage d = ap (λ es. count_at rows d + stored_of es d) (sym at) ∙ h.counts d name named in
          let one : stored_of (e ∷ rest) d ≡ suc (stored_of rest d) = under-own d e rest own in
          let most : stored_of storage d ≤ length storage = filter-shorter (is_of d) storage in
          let counted : count_at (with_count rows (struct_under e.key) 1) d ≡ capped (count_at rows d + 1) =
          ap (λ (x : Definition). count_at (with_count rows x 1) d) own ∙ own-count rows d 1 there.0 there.1 in
          omega (arith, so_far, one, counted, below-cap (count_at rows d + 1) (omega (arith, so_far, one, most, few)))
      by_struct d name named false is =
          let apart : struct_under e.key ≡ d → ⊥ = λ own. differ (sym (is-own d e own) ∙ is) in
          let so_far : count_at rows d + stored_of (e ∷ rest) d ≡ stored_of storage d = ap (λ es. count_at rows d + stored_of es d) (sym at) ∙ h.counts d name named in
          omega (arith, so_far, under-other d e rest apart, other-count rows (struct_under e.key) 1 d (h.has d name named).0 (λ own. apart (sym own)))
        where
          differ : true ≡ false → ⊥
          differ e = cc

  -- ---- struct by struct

  by-append : (f : Definition → ℕ) (es : List FlatEntry) (ds : List Definition) (d : Definition) → by_structs f es (ds ++ d ∷ []) ≡ by_structs f es ds + stored_of es d * f d
  by-append f es [] d = omega arith
  by-append f es (x ∷ ds) d = omega (arith, by-append f es ds d)

  -- the counts of the values of the first so many structs
  pub record IsAdding (es : List FlatEntry) (ds : List Definition) (rows : List (List ℕ)) : Type 0 where
    pub has : HasRows ms rows
    pub counts : (d : Definition) (name : StructName) → name_at ms d.place d.index ≡ Some name → capped (count_at rows d) ≡ capped (by_structs (structs_under 8 ms name) es ds)

  -- as many as are stored, of a struct that is there
  same-many : (es : List FlatEntry) (stored : List (List ℕ)) (d : Definition) (n : ℕ) (name : StructName) → AreStored ms es stored → n ≡ count_at stored d
      → n * structs_under 8 ms name d ≡ stored_of es d * structs_under 8 ms name d
  same-many es stored d n name are is = by_name (name_at ms d.place d.index) refl
    where
      by_name : (o : Option StructName) → name_at ms d.place d.index ≡ o → n * option_map_or (structs_within 8 ms name) o 0 ≡ stored_of es d * option_map_or (structs_within 8 ms name) o 0
      by_name None none = omega arith
      by_name (Some own) named = ap (λ k. k * structs_within 8 ms name own) (is ∙ are.counts d own named)

  -- one struct more
  more-by : (es : List FlatEntry) (ds : List Definition) (i : ℕ) (z : Definition) (name : StructName) → i < length ds
      → by_structs (structs_under 8 ms name) es (take (i + 1) ds) ≡ by_structs (structs_under 8 ms name) es (take i ds) + stored_of es (get_or ds i z) * structs_under 8 ms name (get_or ds i z)
  more-by es ds i z name lt = ap (by_structs (structs_under 8 ms name) es) (take_more ds i z lt) ∙ by-append (structs_under 8 ms name) es (take i ds) (get_or ds i z)

  module _ (es : List FlatEntry) (stored : List (List ℕ)) (are : AreStored ms es stored) (ds : List Definition) (i : ℕ) (z : Definition) (lt : i < length ds) (n : ℕ)
      (many : n ≡ count_at stored (get_or ds i z)) where
    abbrev d : Definition
    d = get_or ds i z

    pub add-more : (rows after : List (List ℕ)) → Adds ms n (λ s. structs_under 8 ms s d) rows after → IsAdding es (take i ds) rows → IsAdding es (take (i + 1) ds) after
    add-more rows after added h = record {
      has = added.rows h.has;
      counts = λ e name named.
          added.counts h.has e name named
          ∙ capped-more (count_at rows e) (by_structs (structs_under 8 ms name) es (take i ds)) (n * structs_under 8 ms name d) (h.counts e name named)
          ∙ ap capped (ap (λ k. by_structs (structs_under 8 ms name) es (take i ds) + k) (same-many es stored d n name are many) ∙ sym (more-by es ds i z name lt));
    }

    pub add-none : (rows : List (List ℕ)) → n ≤ 0 → IsAdding es (take i ds) rows → IsAdding es (take (i + 1) ds) rows
    add-none rows none h = record {
      has = h.has;
      counts = λ e name named.
          h.counts e name named ∙ ap capped (nothing (by_structs (structs_under 8 ms name) es (take i ds)) (structs_under 8 ms name d)
          ∙ ap (λ k. by_structs (structs_under 8 ms name) es (take i ds) + k) (same-many es stored d n name are many) ∙ sym (more-by es ds i z name lt));
    }
      where
        nothing : (a k : ℕ) → a ≡ a + n * k
        nothing a k = let zero_many : n ≡ 0 = omega (arith, none) in rw zero_many (omega arith)

-- all of them are what is stored, at any depth
stored-by : (published : List PublishedModule) → IsStore published → (es : List FlatEntry) → All (IsFineWords (tables_in published)) es → (name : StructName)
    → by_structs (structs_under 8 (tables_in published) name) es (keyed_from 0 (tables_in published)) ≡ count (storage_of (tables_in published) es) name
stored-by published store es fine name =
    let modules = tables_in published in
    let accepted = accepted_store published store in
    let words = fine_words-typed modules accepted es fine in
    ap (λ xs. by_structs (structs_under 8 modules name) xs (keyed_from 0 modules)) (sym words.whole)
    ∙ sym (count-by_structs modules name (store-sized published store) (storage_of modules es) (typed_is_fine modules accepted (storage_of modules es) words.typed))

pub add-all : (ms : List Module) → IsOfStore ms → (es : List FlatEntry) → All (IsFineWords ms) es → (ds : List Definition) (i : ℕ) (rows : List (List ℕ)) → ds ≡ keyed_from 0 ms → length ds ≤ i
    → IsAdding ms es (take i ds) rows → AreAll ms es rows
add-all ms of es fine ds i rows whole le h = record {
  has = h.has;
  counts = λ d name named.
      h.counts d name named
      ∙ ap capped (ap (by_structs (structs_under 8 ms name) es) (take_all i ds le ∙ whole)
      ∙ subst (λ (l : List Module). All (IsFineWords l) es → by_structs (structs_under 8 l name) es (keyed_from 0 l) ≡ count (storage_of l es) name) of.2 (λ f. stored-by of.0 of.1 es f name) fine);
}
