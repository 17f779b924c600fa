-- The parts of a saved ledger, as they are written one after the other.
use Rattle.mv_saved_text.proofs.Common.{[], ◌++◌, ◌+◌, ◌-◌, ◌<◌, ◌∙◌, ◌∷◌, ◌≡◌, ◌≤◌, Err, List, None, Ok, Option, Result, Some, ap, append-nil, append_assoc, ap₂, arith, flat_map, get_or, length, map, refl}
use Rattle.mv_saved_text.proofs.Common.{subst, suc, sym, take, zero, ℕ, flat_map_more, map_more, take_all, take_more, flat_map-append, All-weaker, get_or_from_slice_get, none-some, same_Some}
use Rattle.mv_saved_text.proofs.Common.{unwrap_or-slice_get, AllByRecursion, All, IfOk, IfSome, IsSome, slice_get, unwrap_or, Global, Vec, Module, StructDefinition}
use Rattle.mv_saved_text.proofs.Common.{PublishedModule, Definition, uleb, FlatEntry, storage_of, then_found, element_at, tables_in, IsSoundLedger, IsSection, IsWritable}
use Rattle.mv_saved_text.proofs.Common.{counts_text, definition_at, section_at, sections_of, written, offered, offer_text, sized, IsSavable, IsSavedText, Second, head_text, keyed_from}
use Rattle.mv_saved_text.proofs.Common.{keyed_indices, saved_text, struct_text, tally_text, IsSmall, LedgerView, all_of, state_of, tallied, view_of, Section, Tally}
use Rattle.std.specs.Prelude.{slice_range}
use Rattle.std.proofs.lemmas.List.Elements.{All-get_or}
use Rattle.mv_saved_text.specs.Parts.Saving.{HasSection, HaveSections}
use Rattle.mv_ledger_state.proofs.Lists.{all-weaker, all-append}
use Rattle.mv_saved_text.proofs.Saves.SavedLoads.{text-saves}
use Rattle.mv_ledger_state.proofs.Runs.TalliesByModule.{all-at}
use Rattle.mv_saved_text.proofs.Loads.BodyKeyed.{keyed_after}

-- ---- each struct with key is defined where it says

-- what all have, the one at an index has
pub each-at : {A : Type 0} (P : A → Type 0) (xs : List A) (i : ℕ) (x : A) → i < length xs → AllByRecursion P xs → P (get_or xs i x)
each-at P [] i x lt h = absurd (omega (arith, lt))
each-at P (y ∷ xs) zero x lt h = h.0
each-at P (y ∷ xs) (suc i) x lt h = each-at P xs i x (omega (arith, lt)) h.1

indices-below : (m : Module) (k n : ℕ) (ds : List StructDefinition) → k + length ds ≡ n → AllByRecursion (λ i. i < n) (keyed_after m k ds)
indices-below m k n [] e = tt
indices-below m k n (d ∷ ds) e = grind (arith, indices-below m (k + 1) n ds (omega (arith, e)))

-- a struct of modules that stand at this place and on
record IsDefinedFrom (place : ℕ) (ms : List Module) (d : Definition) : Type 0 where
  at : ℕ
  place_is : d.place ≡ place + at
  m : Module
  m_is : slice_get ms at ≡ Some m
  low : d.index < length m.structs

row-defined : (place : ℕ) (m : Module) (ms : List Module) (is : List ℕ) → AllByRecursion (λ i. i < length m.structs) is → AllByRecursion (IsDefinedFrom place (m ∷ ms))
    (map (λ i. record { place = place; index = i }) is)
row-defined place m ms [] h = tt
row-defined place m ms (i ∷ is) h = (record { at = 0; place_is = omega arith; m = m; m_is = refl; low = h.0 }, row-defined place m ms is h.1)

later : (place : ℕ) (m : Module) (ms : List Module) (d : Definition) → IsDefinedFrom (place + 1) ms d → IsDefinedFrom place (m ∷ ms) d
later place m ms d h = record { at = suc h.at; place_is = omega (arith, h.place_is); m = h.m; m_is = h.m_is; low = h.low }

keyed-from : (place : ℕ) (ms : List Module) → AllByRecursion (IsDefinedFrom place ms) (keyed_from place ms)
keyed-from place [] = tt
keyed-from place (m ∷ ms) =
    all-append (IsDefinedFrom place (m ∷ ms)) (map (λ i. record { place = place; index = i }) (keyed_indices m)) (keyed_from (place + 1) ms)
    (row-defined place m ms (keyed_indices m) (indices-below m 0 (length m.structs) m.structs (omega arith)))
    (all-weaker (IsDefinedFrom (place + 1) ms) (IsDefinedFrom place (m ∷ ms)) (later place m ms) (keyed_from (place + 1) ms) (keyed-from (place + 1) ms))

-- each struct with key is defined
pub keyed-defined-at : (ms : List Module) (i : ℕ) (e : Definition) → i < length (keyed_from 0 ms) → IsSome (definition_at ms (get_or (keyed_from 0 ms) i e))
keyed-defined-at ms i e lt =
    let d : Definition = get_or (keyed_from 0 ms) i e in
    let h : IsDefinedFrom 0 ms d = each-at (IsDefinedFrom 0 ms) (keyed_from 0 ms) i e lt (keyed-from 0 ms) in
    let place : h.at ≡ d.place = omega (arith, h.place_is) in
    let m_is : slice_get ms d.place ≡ Some h.m = subst (λ (k : ℕ). slice_get ms k ≡ Some h.m) place h.m_is in
    let x = element_at h.m.structs d.index h.low in
    subst IsSome (sym (then_found (slice_get ms d.place) (λ m. slice_get m.structs d.index) h.m (Some x.0) m_is x.1)) refl

-- ---- modules

module _ (store : List PublishedModule) where
  -- one module more
  pub modules-more : (i : ℕ) (old text first after bytes certificate : List ℕ) → i < length store → text ≡ old ++ flat_map offer_text (map offered (take i store))
      → IfSome (slice_get store i) (λ p. bytes ≡ p.text) → IfSome (slice_get store i) (λ p. certificate ≡ p.certificate) → first ≡ text ++ sized bytes → after ≡ first ++ sized certificate
      → after ≡ old ++ flat_map offer_text (map offered (take (i + 1) store))
  modules-more i old text first after bytes certificate lt so_far bytes_are certificate_is one two =
      let p = element_at store i lt in
      let own : bytes ≡ p.0.text = subst (λ (o : Option PublishedModule). IfSome o (λ p. bytes ≡ p.text)) p.1 bytes_are in
      let also : certificate ≡ p.0.certificate = subst (λ (o : Option PublishedModule). IfSome o (λ p. certificate ≡ p.certificate)) p.1 certificate_is in
      let at : get_or store i p.0 ≡ p.0 = get_or_from_slice_get store i p.0 p.0 p.1 in
      let more : map offered (take (i + 1) store) ≡ map offered (take i store) ++ offered p.0 ∷ [] = map_more offered store i p.0 lt
      ∙ ap (λ (q : PublishedModule). map offered (take i store) ++ offered q ∷ []) at in
      let added : after ≡ text ++ offer_text (offered p.0) =
      two ∙ ap (λ l. l ++ sized certificate) one ∙ append_assoc text (sized bytes) (sized certificate) ∙ ap₂ (λ (a b : List ℕ). text ++ (sized a ++ sized b)) own also in
      added ∙ ap (λ l. l ++ offer_text (offered p.0)) so_far ∙ flat_map_more offer_text old (map offered (take i store)) (offered p.0) ∙ sym (ap (λ l. old ++ flat_map offer_text l) more)

-- ---- tallies

module _ (tss : List (List Tally)) (i : ℕ) (lt : i < length tss) where
  at-is : (ts : List Tally) → ts ≡ unwrap_or (slice_get tss i) [] → ts ≡ get_or tss i []
  at-is ts is = is ∙ unwrap_or-slice_get tss i []

  -- those of a module can be written, as all can
  pub tallies-at : (ts : List Tally) → ts ≡ unwrap_or (slice_get tss i) [] → All IsWritable (all_of tss) → All IsWritable ts
  tallies-at ts is all = subst (All IsWritable) (sym (at-is ts is)) (all-at IsWritable tss i [] all lt)

  -- those of one module more
  pub tallies-more : (ts : List Tally) (old text after : List ℕ) → ts ≡ unwrap_or (slice_get tss i) [] → text ≡ old ++ counts_text (all_of (take i tss)) → after ≡ text ++ counts_text ts
      → after ≡ old ++ counts_text (all_of (take (i + 1) tss))
  tallies-more ts old text after is so_far added =
      let more : all_of (take (i + 1) tss) ≡ all_of (take i tss) ++ ts =
      ap all_of (take_more tss i [] lt ∙ ap (λ (us : List Tally). take i tss ++ us ∷ []) (sym (at-is ts is))) ∙ flat_map-append (λ (us : List Tally). us) (take i tss) (ts ∷ [])
      ∙ ap (λ us. all_of (take i tss) ++ us) (append-nil ts) in
      added ∙ ap (λ l. l ++ counts_text ts) so_far ∙ append_assoc old (counts_text (all_of (take i tss))) (counts_text ts)
      ∙ ap (λ l. old ++ l) (sym (flat_map-append (λ (t : Tally). uleb t.packs ++ uleb t.unpacks) (all_of (take i tss)) ts) ∙ sym (ap counts_text more))

-- what so few runs have made can be written
pub all-writable : (runs : ℕ) (ts : List Tally) → runs ≤ 4294967296 → All (IsSmall runs) ts → All IsWritable ts
all-writable runs ts few = All-weaker (IsSmall runs) IsWritable (λ t small. record { packs = omega (arith, few, small.0); unpacks = omega (arith, few, small.1) }) ts

-- ---- what is stored, struct by struct

module _ (modules : List Module) (entries : List FlatEntry) (rows : List (List Section)) (ds : List Definition) (have : HaveSections modules entries rows ds) (i : ℕ) (e : Definition) (lt : i < length ds) where
  -- the text of one struct's values
  abbrev text_under : Definition → List ℕ
  text_under = struct_text (storage_of modules entries)

  own : HasSection modules entries rows (get_or ds i e)
  own = All-get_or (HasSection modules entries rows) ds i e lt have

  -- the section of one struct more
  pub sections-next : (s : Section) (old text after : List ℕ) → section_at rows (get_or ds i e) ≡ Some s → text ≡ old ++ flat_map text_under (take i ds)
      → after ≡ text ++ (uleb s.count ++ s.text.items) → after ≡ old ++ flat_map text_under (take (i + 1) ds)
  sections-next s old text after s_is so_far added =
      let d : Definition = get_or ds i e in
      let is : IsSection modules entries d s = subst (IsSection modules entries d) (same_Some own.section s (sym own.section_is ∙ s_is)) own.is in
      let bytes : uleb s.count ++ s.text.items ≡ text_under d = ap₂ (λ (n : ℕ) (l : List ℕ). uleb n ++ l) is.count is.text in
      added ∙ ap₂ (λ (x y : List ℕ). x ++ y) so_far bytes ∙ flat_map_more text_under old (take i ds) d ∙ sym (ap (λ (l : List Definition). old ++ flat_map text_under l) (take_more ds i e lt))

  -- each struct has a section
  pub sections-there : section_at rows (get_or ds i e) ≡ None → ⊥
  sections-there none = none-some own.section (sym none ∙ own.section_is)

-- ---- the whole

pub counts-are : (modules : List Module) (ts : List Tally) → counts_text ts ≡ flat_map (tally_text Second) (map (tallied modules) ts)
counts-are modules [] = refl
counts-are modules (t ∷ ts) = ap (λ l. (uleb t.packs ++ uleb t.unpacks) ++ l) (counts-are modules ts)

-- what is written is the text of the ledger with these parts
pub written-is : (runs : ℕ) (published : List PublishedModule) (stored : List FlatEntry) (tallies : List Tally)
    → written runs published stored tallies ≡ saved_text Second (state_of (view_of published stored tallies runs))
written-is runs published stored tallies =
    let head = head_text Second runs (map offered published) in
    let sections = flat_map (struct_text (storage_of (tables_in published) stored)) (keyed_from 0 (tables_in published)) in
    append_assoc head (counts_text tallies) sections ∙ ap (λ l. head ++ (l ++ sections)) (counts-are (tables_in published) tallies)

-- what is written in turn
pub written-from : (runs : ℕ) (published : List PublishedModule) (stored : List FlatEntry) (tallies : List Tally) (modules : List Module) (ds : List Definition) (n : ℕ)
    (rows shown : List (Vec Section Global)) (text head counts whole : List ℕ) → modules ≡ tables_in published → ds ≡ keyed_from 0 modules → n ≡ length ds
    → HaveSections modules stored (sections_of rows) (slice_range (keyed_from 0 modules) 0 n)
    → shown ≡ rows → text ≡ [] → head ≡ text ++ head_text Second runs (map offered published) → counts ≡ head ++ counts_text tallies
    → ((ms : List Module) (entries : List FlatEntry) → HaveSections ms entries (sections_of shown) ds → whole ≡ counts ++ flat_map (struct_text (storage_of ms entries)) ds)
    → whole ≡ written runs published stored tallies
written-from runs published stored tallies modules ds n rows shown text head counts whole modules_are ds_are n_is have shown_is none first second third =
    let all : slice_range (keyed_from 0 modules) 0 n ≡ ds = take_all (n - 0) (keyed_from 0 modules) (omega (arith, n_is, ap length ds_are)) ∙ sym ds_are in
    let here : HaveSections modules stored (sections_of rows) ds = subst (λ (l : List Definition). HaveSections modules stored (sections_of rows) l) all have in
    let last = third modules stored (subst (λ (l : List (Vec Section Global)). HaveSections modules stored (sections_of l) ds) (sym shown_is) here) in
    let before : counts ≡ head_text Second runs (map offered published) ++ counts_text tallies = second
    ∙ ap (λ l. l ++ counts_text tallies) (first ∙ ap (λ l. l ++ head_text Second runs (map offered published)) none) in
    last ∙ ap (λ (l : List Definition). counts ++ flat_map (struct_text (storage_of modules stored)) l) ds_are
    ∙ ap₂ (λ (l : List ℕ) (ms : List Module). l ++ flat_map (struct_text (storage_of ms stored)) (keyed_from 0 ms)) before modules_are

-- some structs with key
pub structs-from : (modules : List Module) (stored : List FlatEntry) (i j : ℕ) (ds part : List Definition) (rows shown : List (Vec Section Global)) (none text : List ℕ) → ds ≡ keyed_from 0 modules
    → part ≡ slice_range ds i j → HaveSections modules stored (sections_of rows) (slice_range (keyed_from 0 modules) i j) → shown ≡ rows → none ≡ []
    → ((ms : List Module) (entries : List FlatEntry) → HaveSections ms entries (sections_of shown) part → text ≡ none ++ flat_map (struct_text (storage_of ms entries)) part)
    → text ≡ flat_map (struct_text (storage_of modules stored)) (slice_range (keyed_from 0 modules) i j)
structs-from modules stored i j ds part rows shown none text ds_are part_is have shown_is none_is put =
    let all : slice_range (keyed_from 0 modules) i j ≡ part = ap (λ (l : List Definition). slice_range l i j) (sym ds_are) ∙ sym part_is in
    let here : HaveSections modules stored (sections_of rows) part = subst (λ (l : List Definition). HaveSections modules stored (sections_of rows) l) all have in
    put modules stored (subst (λ (l : List (Vec Section Global)). HaveSections modules stored (sections_of l) part) (sym shown_is) here)
    ∙ ap₂ (λ (t : List ℕ) (l : List Definition). t ++ flat_map (struct_text (storage_of modules stored)) l) none_is (sym all)

-- what is written of a sound ledger within its limits is its saved text, if memory did not run out
pub saved-so : {E : Type 0} (r : Result (Vec ℕ Global) E) (runs : ℕ) (published : List PublishedModule) (stored : List FlatEntry) (tallies : List Tally) (v : LedgerView)
    → view_of published stored tallies runs ≡ v → IsSoundLedger (state_of v) → IsSavable (state_of v)
    → IfOk r (λ w. w.items ≡ written runs published stored tallies) → IfOk r (λ w. IsSavedText Second w.items (state_of v))
saved-so (Ok w) runs published stored tallies v view_is sound savable is =
    let same : w.items ≡ saved_text Second (state_of v) = is ∙ written-is runs published stored tallies ∙ ap (λ (x : LedgerView). saved_text Second (state_of x)) view_is in
    subst (λ (bytes : List ℕ). IsSavedText Second bytes (state_of v)) (sym same) (text-saves Second (state_of v) sound savable)
saved-so (Err e) runs published stored tallies v view_is sound savable is = tt
