-- Sections of structs: empty ones, and one with one value more.
use Rattle.mv_saved_text.proofs.Common.{[], ◌++◌, ◌+◌, ◌<◌, ◌∙◌, ◌∷◌, ◌≡◌, ◌≤◌, Err, List, Ok, Result, Some, ap, arith, eq-eqb, get_or, inl, inr, length, length-append, option_map, refl, subst}
use Rattle.mv_saved_text.proofs.Common.{sym, true, ℕ, and_from, cases_eq, length-map, map-set, get_or_from_slice_get, same_Some, slice_get-map, slice_get_read, slice_get_within}
use Rattle.mv_saved_text.proofs.Common.{option_map_or, All, IsSome, OnOk, slice_get, slice_set, Global, Vec, Module, ◌>>=◌, Definition, Key, LeafKind, on_bind, address_text, some-of, then_found}
use Rattle.mv_saved_text.proofs.Common.{element_at, coded, kinds_under, structs_in, AddsValue, AreSections, HasOneMore, IsAdded, IsEmpty, definition_at, is_same_definition, section_at, sections_of, Section}
use Rattle.mv_saved_text.specs.Parts.Saving.{struct_under}
use Rattle.mv_storage.proofs.PlaceLemmas.{slice_get-set_same, slice_get-set_other}
use Rattle.mv_bound_rules.proofs.Entries.{last_or_before}

-- ---- empty sections

-- so many rows, each with an empty section for each struct
pub record AreEmptyRows (modules : List Module) (n : ℕ) (rows : List (List Section)) : Type 0 where
  pub len : length rows ≡ n
  pub each : (k : ℕ) (row : List Section) → slice_get rows k ≡ Some row → (length row ≡ structs_in modules k) × All IsEmpty row

module _ (modules : List Module) where
  pub empty-more : (n : ℕ) (rows : List (List Section)) (row : List Section) → AreEmptyRows modules n rows → length row ≡ structs_in modules n → All IsEmpty row → AreEmptyRows modules (n + 1)
      (rows ++ row ∷ [])
  empty-more n rows row h long empty = record {
    len = omega (arith, length-append rows (row ∷ []), h.len);
    each = λ k r e. elim (last_or_before rows row k r e) [
      | inl at ↦ h.each k r at
      | inr here ↦ (subst (λ (x : List Section). (length x ≡ structs_in modules k) × All IsEmpty x) here.1 (long ∙ ap (structs_in modules) (sym (here.0 ∙ h.len)), empty))
    ];
  }

  pub empty-all : (n : ℕ) (rows : List (List Section)) → length modules ≤ n → AreEmptyRows modules n rows → AreSections modules [] rows
  empty-all n rows le h = record {
    there = λ d is.
        let found = some-of (definition_at modules d) is in
        on_bind (slice_get modules d.place) _ found.0 found.1 (λ m m_is e1.
        let low : d.place < length rows = omega (arith, slice_get_within modules d.place m m_is, h.len, le) in
        let row = element_at rows d.place low in
        let long : length row.0 ≡ length m.structs = (h.each d.place row.0 row.1).0 ∙ ap (λ o. option_map_or (λ m. length m.structs) o 0) m_is in
        let s = element_at row.0 d.index (omega (arith, slice_get_within m.structs d.index found.0 e1, long)) in
        subst IsSome (sym (then_found (slice_get rows d.place) _ row.0 (Some s.0) row.1 s.1)) refl);
    each = λ d s e.
        on_bind (slice_get rows d.place) _ s e (λ row row_is e1.
        let empty : IsEmpty s = subst IsEmpty (get_or_from_slice_get row d.index s s e1) ((h.each d.place row row_is).1 d.index s (slice_get_within row d.index s e1)) in
        record { count = empty.count; text = empty.text; known = λ lt. absurd (omega (arith, empty.count, lt)) });
  }

-- ---- one value more

module _ (rows : List (List Section)) (d : Definition) (row new : List Section) (s t : Section) (kinds : List LeafKind) (bytes : List ℕ) (row_is : slice_get rows d.place ≡ Some row)
    (s_is : slice_get row d.index ≡ Some s) (new_is : new ≡ slice_set row d.index t) where
  -- another place
  elsewhere : (e : Definition) → (d.place ≡ e.place → ⊥) → section_at (slice_set rows d.place new) e ≡ section_at rows e
  elsewhere e other = ap (λ o. o >>= λ row. slice_get row e.index) (slice_get-set_other rows d.place e.place new other)

  -- another struct of the same module
  beside : (e : Definition) → d.place ≡ e.place → (d.index ≡ e.index → ⊥) → section_at (slice_set rows d.place new) e ≡ section_at rows e
  beside e same other =
      let after : slice_get (slice_set rows d.place new) e.place ≡ Some new = subst (λ p. slice_get (slice_set rows d.place new) p ≡ Some new) same (slice_get-set_same rows d.place row new row_is) in
      let before : slice_get rows e.place ≡ Some row = subst (λ p. slice_get rows p ≡ Some row) same row_is in
      then_found (slice_get (slice_set rows d.place new) e.place) (λ row. slice_get row e.index) new (slice_get row e.index) after
      (ap (λ l. slice_get l e.index) new_is ∙ slice_get-set_other row d.index e.index t other)
      ∙ sym (then_found (slice_get rows e.place) (λ row. slice_get row e.index) row (slice_get row e.index) before refl)

  pub added-at : HasOneMore s kinds bytes t → IsAdded rows d kinds bytes (slice_set rows d.place new)
  added-at more = record {
    here = λ u e.
        let same : s ≡ u = same_Some s u (sym (then_found (slice_get rows d.place) (λ row. slice_get row d.index) row (Some s) row_is s_is) ∙ e) in (
          t,
          then_found (slice_get (slice_set rows d.place new) d.place) (λ row. slice_get row d.index) new (Some t) (slice_get-set_same rows d.place row new row_is)
              (ap (λ l. slice_get l d.index) new_is ∙ slice_get-set_same row d.index s t s_is),
          subst (λ (x : Section). HasOneMore x kinds bytes t) same more,
        );
    others = λ e differ. elim (cases_eq d.place e.place) [
      | inl same ↦ beside e same (λ index. let is : is_same_definition d e ≡ true = and_from _ _ (eq-eqb d.place e.place same) (eq-eqb d.index e.index index) in cc)
      | inr far ↦ elsewhere e far
    ];
  }

-- a row of the sections in vectors
pub added-vec : (rows : List (Vec Section Global)) (d : Definition) (row : Vec Section Global) (new : Vec Section Global) (s t : Section) (kinds : List LeafKind) (bytes : List ℕ)
    → slice_get rows d.place ≡ Some row → slice_get row.items d.index ≡ Some s
    → new.items ≡ slice_set row.items d.index t → HasOneMore s kinds bytes t → IsAdded (sections_of rows) d kinds bytes (sections_of (slice_set rows d.place new))
added-vec rows d row new s t kinds bytes row_is s_is new_is more =
    subst (λ (l : List (List Section)). IsAdded (sections_of rows) d kinds bytes l) (sym (map-set (λ (r : Vec Section Global). r.items) rows d.place new))
    (added-at (sections_of rows) d row.items new.items s t kinds bytes (slice_get-map (λ (r : Vec Section Global). r.items) rows d.place ∙ ap (option_map (λ (r : Vec Section Global). r.items)) row_is)
    s_is new_is more)

-- ---- where a section stands

module _ (rows : List (Vec Section Global)) (d : Definition) (there : IsSome (section_at (sections_of rows) d)) where
  pub row-in : d.place < length rows
  row-in =
      let s = some-of (section_at (sections_of rows) d) there in
      on_bind (slice_get (sections_of rows) d.place) (λ row. slice_get row d.index) s.0 s.1 (λ row row_is e.
      omega (arith, slice_get_within (sections_of rows) d.place row row_is, length-map rows (λ (r : Vec Section Global). r.items)))

  module _ (row : Vec Section Global) (row_is : row ≡ get_or rows d.place row) where
    pub row-at : slice_get rows d.place ≡ Some row
    row-at = slice_get_read rows (length rows) d.place row refl row-in row_is

    items-at : slice_get (sections_of rows) d.place ≡ Some row.items
    items-at = slice_get-map (λ (r : Vec Section Global). r.items) rows d.place ∙ ap (option_map (λ (r : Vec Section Global). r.items)) row-at

    pub index-in : d.index < length row.items
    index-in =
        let s = some-of (section_at (sections_of rows) d) there in
        let own : slice_get row.items d.index ≡ Some s.0 = sym (then_found (slice_get (sections_of rows) d.place) (λ row. slice_get row d.index) row.items (slice_get row.items d.index) items-at refl)
        ∙ s.1 in
        slice_get_within row.items d.index s.0 own

    module _ (s : Section) (s_is : s ≡ get_or row.items d.index s) where
      pub index-at : slice_get row.items d.index ≡ Some s
      index-at = slice_get_read row.items (length row.items) d.index s refl index-in s_is

-- a value was added to the section of its struct, if memory did not run out
pub adds-value : {T E : Type 0} (r : Result T E) (modules : List Module) (rows : List (Vec Section Global)) (key : Key) (p i : ℕ) (row new : Vec Section Global) (s ready t : Section) (words : List ℕ)
    → p ≡ key.place → i ≡ key.index → IsSome (section_at (sections_of rows) (struct_under key)) → row ≡ get_or rows p row → s ≡ get_or row.items i s → new.items ≡ slice_set row.items i t
    → kinds_under modules (struct_under key) ≡ Some ready.kinds.items → ready.count ≡ s.count → ready.text.items ≡ s.text.items → OnOk r (t.count ≡ ready.count + 1)
    → OnOk r (t.kinds.items ≡ ready.kinds.items) → OnOk r (t.text.items ≡ ready.text.items ++ (address_text key.address ++ coded ready.kinds.items words))
    → OnOk r (AddsValue modules (sections_of rows) key words (sections_of (slice_set rows p new)))
adds-value (Ok x) modules rows key p i row new s ready t words p_is i_is there row_is s_is new_is kinds_are same_count same_text count kinds text =
    let d : Definition = struct_under key in
    let bytes : List ℕ = address_text key.address ++ coded ready.kinds.items words in
    let row_read : row ≡ get_or rows d.place row = subst (λ (n : ℕ). row ≡ get_or rows n row) p_is row_is in
    let s_read : s ≡ get_or row.items d.index s = subst (λ (n : ℕ). s ≡ get_or row.items n s) i_is s_is in
    let new_read : new.items ≡ slice_set row.items d.index t = subst (λ (n : ℕ). new.items ≡ slice_set row.items n t) i_is new_is in
    let more : HasOneMore s ready.kinds.items bytes t = record { count = count ∙ ap (λ n. n + 1) same_count; kinds_are = kinds; text = text ∙ ap (λ (l : List ℕ). l ++ bytes) same_text } in
    record {
      kinds = ready.kinds.items;
      kinds_are = kinds_are;
      added = subst (λ (n : ℕ). IsAdded (sections_of rows) d ready.kinds.items bytes (sections_of (slice_set rows n new))) (sym p_is)
          (added-vec rows d row new s t ready.kinds.items bytes (row-at rows d there row row_read) (index-at rows d there row row_read s s_read) new_read more);
    }
adds-value (Err x) modules rows key p i row new s ready t words p_is i_is there row_is s_is new_is kinds_are same_count same_text count kinds text = tt
