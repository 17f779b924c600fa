-- Counts with more values of structs: what is added to them one after the other.
use Rattle.mv_saved_text.proofs.Common.{[], ⊎_elim, ◌*◌, ◌++◌, ◌+◌, ◌-◌, ◌<◌, ◌^◌, ◌∙◌, ◌∷◌, ◌≡◌, ◌≤◌, Bool, List, Some, ap, arith, cond, false, get_or, length, refl, subst, suc, sym}
use Rattle.mv_saved_text.proofs.Common.{take, true, ℕ, cases_eq, get_or-set_other, get_or-set_same, length-set, take_all, take_more, same_Some, option_map_or, min, slice_set, Module, name_at}
use Rattle.mv_saved_text.proofs.Common.{StructName, same_struct, Definition, same_struct-is, same_struct-same, IsMadeOf, Part, index_of, structs_in_part, structs_in_parts, structs_under}
use Rattle.mv_saved_text.proofs.Common.{structs_within, Adds, HasRows, capped, count_at, row_at, with_count, IsOfStore}
use Rattle.mv_saved_text.proofs.Saves.LayoutParts.{structs-there}

-- ---- numbers up to a greatest one

-- what is added to numbers that are one up to the greatest
min-more : (a b k c : ℕ) → min a c ≡ min b c → min (a + k) c ≡ min (b + k) c
min-more a b k c h = omega arith

min-twice : (a c : ℕ) → min (min a c) c ≡ min a c
min-twice a c = omega arith

pub capped-more : (a b k : ℕ) → capped a ≡ capped b → capped (a + k) ≡ capped (b + k)
capped-more a b k h = min-more a b k (2 ^ 128 - 1) h

pub capped-twice : (a : ℕ) → capped (capped a) ≡ capped a
capped-twice a = min-twice a (2 ^ 128 - 1)

-- ---- the counts of one struct and of the others

module _ (rows : List (List ℕ)) (d : Definition) (n : ℕ) where
  -- the row of the struct's module
  own-row : d.place < length rows → row_at (with_count rows d n) d.place ≡ slice_set (row_at rows d.place) d.index (capped (count_at rows d + n))
  own-row lt = get_or-set_same rows d.place (slice_set (row_at rows d.place) d.index (capped (count_at rows d + n))) [] lt

  other-row : (place : ℕ) → (place ≡ d.place → ⊥) → row_at (with_count rows d n) place ≡ row_at rows place
  other-row place apart = get_or-set_other rows d.place place (slice_set (row_at rows d.place) d.index (capped (count_at rows d + n))) [] apart

  pub own-count : d.place < length rows → d.index < length (row_at rows d.place) → count_at (with_count rows d n) d ≡ capped (count_at rows d + n)
  own-count lt low = ap (λ row. get_or row d.index 0) (own-row lt) ∙ get_or-set_same (row_at rows d.place) d.index (capped (count_at rows d + n)) 0 low

  pub other-count : (e : Definition) → e.place < length rows → (e ≡ d → ⊥) → count_at (with_count rows d n) e ≡ count_at rows e
  other-count e lt apart =
      ⊎_elim (λ (same : e.place ≡ d.place).
      let far : e.index ≡ d.index → ⊥ = λ index. apart (λ i. record { place = same i; index = index i }) in
      ap (λ place. get_or (row_at (with_count rows d n) place) e.index 0) same
      ∙ ap (λ row. get_or row e.index 0) (own-row (subst (λ (k : ℕ). k < length rows) same lt))
      ∙ get_or-set_other (row_at rows d.place) d.index e.index (capped (count_at rows d + n)) 0 far
      ∙ ap (λ place. get_or (row_at rows place) e.index 0) (sym same)) (λ far. ap (λ row. get_or row e.index 0) (other-row e.place far)) (cases_eq e.place d.place)

  -- the rows stay as long
  row-length : (place : ℕ) → place < length rows → length (row_at (with_count rows d n) place) ≡ length (row_at rows place)
  row-length place lt =
      ⊎_elim (λ (e : place ≡ d.place).
      ap (λ k. length (row_at (with_count rows d n) k)) e ∙ ap length (own-row (subst (λ (k : ℕ). k < length rows) e lt))
      ∙ length-set (row_at rows d.place) d.index (capped (count_at rows d + n)) ∙ ap (λ k. length (row_at rows k)) (sym e)) (λ far. ap length (other-row place far)) (cases_eq place d.place)

  pub rows-kept : (ms : List Module) → HasRows ms rows → HasRows ms (with_count rows d n)
  rows-kept ms has e name named =
      let was = has e name named in
      let long : length (with_count rows d n) ≡ length rows = length-set rows d.place (slice_set (row_at rows d.place) d.index (capped (count_at rows d + n))) in
      (omega (arith, was.0, long), omega (arith, was.1, row-length e.place was.0))

-- ---- what is added

module _ (ms : List Module) (n : ℕ) where
  pub adds-as : (f g : StructName → ℕ) (old new : List (List ℕ)) → ((s : StructName) → f s ≡ g s) → Adds ms n f old new → Adds ms n g old new
  adds-as f g old new same h = record {
    rows = h.rows;
    counts = λ has d name named. h.counts has d name named ∙ ap (λ k. capped (count_at old d + n * k)) (same name);
  }

  pub adds-then : (f g : StructName → ℕ) (old mid new : List (List ℕ)) → Adds ms n f old mid → Adds ms n g mid new → Adds ms n (λ s. f s + g s) old new
  adds-then f g old mid new first second = record {
    rows = λ has. second.rows (first.rows has);
    counts = λ has d name named.
        second.counts (first.rows has) d name named
        ∙ capped-more (count_at mid d) (count_at old d + n * f name) (n * g name) (first.counts has d name named)
        ∙ ap capped (sums (count_at old d) (f name) (g name));
  }
    where
      sums : (a x y : ℕ) → a + n * x + n * y ≡ a + n * (x + y)
      sums a x y = omega arith

  -- one struct's own values
  pub adds-own : IsOfStore ms → (d : Definition) (own : StructName) (rows : List (List ℕ)) → name_at ms d.place d.index ≡ Some own
      → Adds ms n (λ s. cond (same_struct own s) 1 0) rows (with_count rows d n)
  adds-own of d own rows at = record {
    rows = rows-kept rows d n ms;
    counts = λ has e name named. by_name has e name named (same_struct own name) refl;
  }
    where
      one_place : (e : Definition) (name : StructName) → name_at ms e.place e.index ≡ Some name → name_at ms d.place d.index ≡ Some name → e ≡ d
      one_place e name e_is d_is =
          let found : (e.place ≡ d.place) × (e.index ≡ d.index) =
          subst (λ (l : List Module). name_at l e.place e.index ≡ Some name → name_at l d.place d.index ≡ Some name → (e.place ≡ d.place) × (e.index ≡ d.index)) of.2
          (index_of of.0 of.1 e.place d.place e.index d.index name) e_is d_is in
          λ i. record { place = found.0 i; index = found.1 i }

      by_name : HasRows ms rows → (e : Definition) (name : StructName) → name_at ms e.place e.index ≡ Some name → (b : Bool) → same_struct own name ≡ b
          → capped (count_at (with_count rows d n) e) ≡ capped (count_at rows e + n * cond b 1 0)
      by_name has e name named true same =
          let e_is : e ≡ d = one_place e name named (at ∙ ap Some (same_struct-is own name same)) in
          let there = has e name named in
          let own_is : count_at (with_count rows d n) d ≡ capped (count_at rows d + n) =
          own-count rows d n (subst (λ (x : Definition). x.place < length rows) e_is there.0) (subst (λ (x : Definition). x.index < length (row_at rows x.place)) e_is there.1) in
          ap (λ (x : Definition). capped (count_at (with_count rows d n) x)) e_is ∙ ap capped own_is ∙ capped-twice (count_at rows d + n)
          ∙ ap (λ (x : Definition). capped (count_at rows x + n)) (sym e_is) ∙ ap capped (once (count_at rows e))
        where
          once : (a : ℕ) → a + n ≡ a + n * 1
          once a = omega arith
      by_name has e name named false other =
          let apart : e ≡ d → ⊥ = λ same. differ (same_Some own name (sym at ∙ ap (λ (x : Definition). name_at ms x.place x.index) (sym same) ∙ named)) in
          ap capped (other-count rows d n e (has e name named).0 apart) ∙ ap capped (never (count_at rows e))
        where
          never : (a : ℕ) → a ≡ a + n * 0
          never a = omega arith

          differ : own ≡ name → ⊥
          differ is = let e : false ≡ true = sym other ∙ ap (same_struct own) (sym is) ∙ same_struct-same own in cc

-- ---- a struct and its parts

module _ (ms : List Module) (n : ℕ) where
  pub adds-struct : IsOfStore ms → (depth : ℕ) (d : Definition) (parts : List Part) (old mid new : List (List ℕ)) → (depth ≡ 0 → ⊥) → IsMadeOf ms d parts → mid ≡ with_count old d n
      → Adds ms n (λ s. structs_in_parts (depth - 1) ms s parts) mid new → Adds ms n (λ s. structs_under depth ms s d) old new
  adds-struct of depth d parts old mid new deep is added adds =
      let there = structs-there ms of (depth - 1) d parts is in
      let deeper : depth ≡ suc (depth - 1) = omega (arith, deep) in
      let own : Adds ms n (λ s. cond (same_struct there.name s) 1 0) old mid = subst (Adds ms n (λ s. cond (same_struct there.name s) 1 0) old) (sym added)
      (adds-own ms n of d there.name old there.named) in
      adds-as ms n (λ s. cond (same_struct there.name s) 1 0 + structs_in_parts (depth - 1) ms s parts) (λ s. structs_under depth ms s d) old new
      (λ s. sym (ap (λ k. structs_under k ms s d) deeper ∙ ap (λ o. option_map_or (structs_within (suc (depth - 1)) ms s) o 0) there.named ∙ there.each s))
      (adds-then ms n (λ s. cond (same_struct there.name s) 1 0) (λ s. structs_in_parts (depth - 1) ms s parts) old mid new own adds)

  module _ (depth : ℕ) (parts : List Part) where
    -- those of the first so many parts
    abbrev pub AddsFirst : ℕ → List (List ℕ) → List (List ℕ) → Type 0
    AddsFirst i old new = Adds ms n (λ s. structs_in_parts depth ms s (take i parts)) old new

    append : (s : StructName) (xs : List Part) (x : Part) → structs_in_parts depth ms s (xs ++ x ∷ []) ≡ structs_in_parts depth ms s xs + structs_in_part depth ms s x
    append s [] x = omega arith
    append s (y ∷ xs) x = omega (arith, append s xs x)

    -- one part more
    pub adds-more : (i : ℕ) (d : Part) (old mid new : List (List ℕ)) → i < length parts → AddsFirst i old mid → Adds ms n (λ s. structs_in_part depth ms s (get_or parts i d)) mid new
        → AddsFirst (i + 1) old new
    adds-more i d old mid new lt so_far one =
        adds-as ms n (λ s. structs_in_parts depth ms s (take i parts) + structs_in_part depth ms s (get_or parts i d)) (λ s. structs_in_parts depth ms s (take (i + 1) parts)) old new
        (λ s. sym (ap (structs_in_parts depth ms s) (take_more parts i d lt) ∙ append s (take i parts) (get_or parts i d)))
        (adds-then ms n (λ s. structs_in_parts depth ms s (take i parts)) (λ s. structs_in_part depth ms s (get_or parts i d)) old mid new so_far one)

    pub adds-all : (i : ℕ) (old new : List (List ℕ)) → length parts ≤ i → AddsFirst i old new → Adds ms n (λ s. structs_in_parts depth ms s parts) old new
    adds-all i old new le h = subst (λ (l : List Part). Adds ms n (λ s. structs_in_parts depth ms s l) old new) (take_all i parts le) h
