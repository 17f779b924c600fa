-- The identifiers of a module that has a text: there are few, and each is short.
use Rattle.mv_interface.proofs.Common.{[], ℕ, ◌++◌, ◌∷◌, ◌<◌, ◌≡◌, ◌≤◌, HasText, List, Module, Some, and_parts, arith, cases_Bool, identifier_fits, inl, inr, is_identifier, leb-true, length, length-append, filter}
use Rattle.mv_interface.proofs.Common.{refl, slice_get}
use Rattle.std.proofs.Common.{ltb-false}
use Rattle.std.specs.Prelude.{flat_map, sum_by, nat_lt}
use Rattle.std.proofs.lemmas.List.Sums.{sum_by-cons}
use Rattle.mv_module_text.specs.Entries.{identifier_text}
use Rattle.mv_module_text.proofs.Sizes.{uleb-some}
use Rattle.mv_binary_format.specs.ModuleText.{Table, all_tables, tables}
use Rattle.mv_bound_rules.proofs.Entries.{all_at}

-- how many bytes a table has
abbrev size_of : Table → ℕ
size_of t = length t.content

-- tables without bytes add none
sum-filter : (ts : List Table) → sum_by size_of (filter (λ t. nat_lt 0 (length t.content)) ts) ≡ sum_by size_of ts
sum-filter [] = refl
sum-filter (t ∷ ts) =
    let s : sum_by size_of (filter (λ t. nat_lt 0 (length t.content)) ts) ≡ sum_by size_of ts = sum-filter ts in
    elim (cases_Bool (nat_lt 0 (length t.content))) [
      | inl h ↦ rw h (omega (arith, s, sum_by-cons size_of t (filter (λ t. nat_lt 0 (length t.content)) ts), sum_by-cons size_of t ts))
      | inr h ↦
          let le : length t.content ≤ 0 = ltb-false 0 (length t.content) h in
          rw h (omega (arith, s, le, sum_by-cons size_of t ts))
    ]

-- the text of an identifier has bytes
longer : (xs ys : List ℕ) → 0 < length xs → 0 < length (xs ++ ys)
longer xs ys some = omega (arith, some, length-append xs ys)

identifier-some : (name : List ℕ) → 0 < length (identifier_text name)
identifier-some name = longer _ name (uleb-some (length name))

-- identifiers are no more than the bytes of their texts
no-more : (names : List (List ℕ)) → length names ≤ length (flat_map identifier_text names)
no-more [] = omega arith
no-more (name ∷ names) =
    let others : length names ≤ length (flat_map identifier_text names) = no-more names in
    let first = identifier-some name in
    omega (arith, others, first, length-append (identifier_text name) (flat_map identifier_text names))

-- a module that has a text has at most as many identifiers as its contents have bytes
pub few_identifiers : (m : Module) → HasText m → length m.identifiers ≤ 65536
few_identifiers m has =
    let size : sum_by size_of (tables m) ≤ 65536 = leb-true (sum_by size_of (tables m)) 65536 has.size in
    let same : sum_by size_of (tables m) ≡ sum_by size_of (all_tables m) = sum-filter (all_tables m) in
    let texts : length m.identifiers ≤ length (flat_map identifier_text m.identifiers) = no-more m.identifiers in
    let among : length (flat_map identifier_text m.identifiers) ≤ sum_by size_of (all_tables m) = omega arith in
    omega arith

-- an identifier has at most 128 bytes
pub short-identifier : (m : Module) → HasText m → (i : ℕ) (name : List ℕ) → slice_get m.identifiers i ≡ Some name → length name ≤ 128
short-identifier m has i name at = leb-true (length name) 128 (and_parts _ (is_identifier name) (all_at identifier_fits m.identifiers i name has.identifiers at)).0
