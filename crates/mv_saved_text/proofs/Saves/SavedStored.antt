-- A saved storage can be told from what follows it, in both forms.
use Rattle.mv_saved_text.proofs.Common.{[], ◌++◌, ◌+◌, ◌∙◌, ◌∷◌, ◌≡◌, ◌⊎◌, Bool, IsTrue, List, Option, Some, ap, ap₂, arith, cond, eq-eqb, false, flat_map, inl, inr, map, refl, subst, suc, sym, true}
use Rattle.mv_saved_text.proofs.Common.{zero, ℕ, and_from, and_parts, both_ways, eqb-true, same_Some, first_so, second_so, AllByRecursion, enumerate_from, filter, option_map_or, ◌&&◌, ◌==◌, slice_get}
use Rattle.mv_saved_text.proofs.Common.{Module, StructDefinition, name_at, struct_abilities, StructName, ◌>>=◌, Definition, Key, Abilities, uleb, address-whole, on_bind, address_text, counted}
use Rattle.mv_saved_text.proofs.Common.{address_fits, address_from, keys_compare, same_key-to, Entry, Storage, key_before, same_key, abilities_at, is_fine_entry, is_fine_storage, is_of_struct}
use Rattle.mv_saved_text.proofs.Common.{on_found, AreAbove, IsAscending, is_keyed, addressed_text, has_key, is_under, keyed_from, keyed_indices, leaves_text, stored_text, struct_text}
use Rattle.mv_ledger_state.proofs.Counting.Stored.{above-below, before-clash}
use Rattle.mv_saved_text.proofs.SavedOnce.{IsOneOn, in_parts, whole-one, uleb-one, counted-one, of_struct-one}
use Rattle.mv_ledger_state.proofs.Lists.{all-front, all-back}
use Rattle.mv_bound_rules.proofs.Found.{passing}
use Rattle.mv_saved_text.specs.Parts.Saving.{struct_under}

-- ---- lists

all_before : {A B : Type 0} (P : B → Type 0) (f : A → B) (xs : List A) → AllByRecursion P (map f xs) → AllByRecursion (λ x. P (f x)) xs
all_before P f [] all = tt
all_before P f (x ∷ xs) all = (all.0, all_before P f xs all.1)

-- ---- the structs with key

-- the structs with key among those from an index on
abbrev keyed_among : Module → ℕ → List StructDefinition → List (ℕ × StructDefinition)
keyed_among m n ds = filter (λ p. has_key m p.1) (enumerate_from n ds)

-- the same, of a first one that is one of them or not, and more
abbrev keyed_after : Module → ℕ → StructDefinition → List StructDefinition → Bool → List (ℕ × StructDefinition)
keyed_after m n d ds b = cond b ((n, d) ∷ keyed_among m (n + 1) ds) (keyed_among m (n + 1) ds)

-- all their indices have this
abbrev AreEach : (ℕ → Type 0) → List (ℕ × StructDefinition) → Type 0
AreEach P ps = AllByRecursion P (map (λ p. p.0) ps)

-- what all indices of structs with key have
indices_each : (P : ℕ → Type 0) (m : Module) (n : ℕ) (ds : List StructDefinition) → AreEach P (keyed_among m n ds)
    → (i q : ℕ) (d : StructDefinition) → q ≡ n + i → slice_get ds i ≡ Some d → has_key m d ≡ true → P q
indices_each P m n [] all i q d is at key = absurd cc
indices_each P m n (c ∷ ds) all i q d is at key = by_index i (has_key m c) refl all is at (λ more j e g. indices_each P m (n + 1) ds more j q d e g key)
  where
    rest_of : (b : Bool) → AreEach P (keyed_after m n c ds b) → AreEach P (keyed_among m (n + 1) ds)
    rest_of true all = all.1
    rest_of false all = all

    by_index : (i : ℕ) (b : Bool) → has_key m c ≡ b → AreEach P (keyed_after m n c ds b) → q ≡ n + i → slice_get (c ∷ ds) i ≡ Some d
        → (AreEach P (keyed_among m (n + 1) ds) → (j : ℕ) → q ≡ (n + 1) + j → slice_get ds j ≡ Some d → P q) → P q
    by_index zero true has all is at go = let first : n ≡ q = omega (arith, is) in subst P first all.0
    by_index zero false has all is at go =
        let same : c ≡ d = same_Some c d at in
        absurd (both_ways (has_key m c) has (ap (has_key m) same ∙ key))
    by_index (suc i) b has all is at go = go (rest_of b all) i (omega (arith, is)) at

-- whether the struct is declared with key
abbrev pub IsKeyed : List Module → Definition → Type 0
IsKeyed modules d = option_map_or (λ (a : Abilities). a.key) (abilities_at modules d.place d.index) false ≡ true

-- what all structs with key have
keyed_each : (P : Definition → Type 0) (place : ℕ) (ms : List Module) → AllByRecursion P (keyed_from place ms)
    → (k i q : ℕ) → q ≡ place + k → option_map_or (λ (a : Abilities). a.key) (abilities_at ms k i) false ≡ true → P (record { place = q; index = i })
keyed_each P place [] all k i q is key = absurd cc
keyed_each P place (m ∷ ms) all zero i q is key =
    let here = all-front P (map (λ (i : ℕ). record { place = place; index = i }) (keyed_indices m)) (keyed_from (place + 1) ms) all in
    let each = all_before P (λ (i : ℕ). record { place = place; index = i }) (keyed_indices m) here in
    let first : place ≡ q = omega (arith, is) in
    on_found (λ (a : Abilities). a.key) (slice_get m.structs i >>= λ d. struct_abilities m d) key (λ a a_is has.
    on_bind (slice_get m.structs i) _ a a_is (λ d at e.
    subst (λ (z : ℕ). P (record { place = z; index = i })) first (indices_each (λ (i : ℕ). P (record { place = place; index = i })) m 0 m.structs each i i d (omega arith) at
    (ap (λ (o : Option Abilities). option_map_or (λ a. a.key) o false) e ∙ has))))
keyed_each P place (m ∷ ms) all (suc k) i q is key =
    let rest = all-back P (map (λ (i : ℕ). record { place = place; index = i }) (keyed_indices m)) (keyed_from (place + 1) ms) all in
    keyed_each P (place + 1) ms rest k i q (omega (arith, is)) key

-- ---- stored values

module _ (modules : List Module) where
  -- a stored value with its struct's name
  entry_named : (e : Entry) → is_fine_entry modules e ≡ true → (name : StructName) × (name_at modules e.key.place e.key.index ≡ Some name) × (is_of_struct modules name e.value ≡ true)
  entry_named e h =
      let of_struct : Bool = option_map_or (λ name. is_of_struct modules name e.value) (name_at modules e.key.place e.key.index) false in
      passing (λ name. is_of_struct modules name e.value) (name_at modules e.key.place e.key.index)
      (second_so (address_fits e.key.address) of_struct (first_so (address_fits e.key.address && of_struct) (is_keyed modules (struct_under e.key)) h))

  -- its address is in its range
  entry_addressed : (e : Entry) → is_fine_entry modules e ≡ true → IsTrue (address_fits e.key.address)
  entry_addressed e h =
      let of_struct : Bool = option_map_or (λ name. is_of_struct modules name e.value) (name_at modules e.key.place e.key.index) false in
      first_so (address_fits e.key.address) of_struct (first_so (address_fits e.key.address && of_struct) (is_keyed modules (struct_under e.key)) h)

  -- and its struct has key
  entry_keyed : (e : Entry) → is_fine_entry modules e ≡ true → IsKeyed modules (record { place = e.key.place; index = e.key.index })
  entry_keyed e h =
      second_so (address_fits e.key.address && option_map_or (λ name. is_of_struct modules name e.value) (name_at modules e.key.place e.key.index) false) (is_keyed modules (struct_under e.key)) h

  -- two stored values of one key
  entry-one : (e f : Entry) (x y : List ℕ) → is_fine_entry modules e ≡ true → is_fine_entry modules f ≡ true → e.key.address ≡ f.key.address → e.key.place ≡ f.key.place → e.key.index ≡ f.key.index
      → leaves_text e.value ++ x ≡ leaves_text f.value ++ y → (e ≡ f) × (x ≡ y)
  entry-one e f x y p q address place index g =
      let a = entry_named e p in
      let b = entry_named f q in
      let same : a.0 ≡ b.0 = same_Some a.0 b.0 (sym a.1 ∙ ap₂ (name_at modules) place index ∙ b.1) in
      let value = of_struct-one modules b.0 e.value f.value x y (subst (λ (z : StructName). is_of_struct modules z e.value ≡ true) same a.2) b.2 g in
      (λ i. record { key = record { address = address i; place = place i; index = index i }; value = value.0 i }, value.1)

  -- a stored value with its key
  pub stored-one : IsOneOn (λ e. is_fine_entry modules e ≡ true) stored_text
  stored-one e f x y p q g =
      let a : List ℕ = address_text e.key.address in
      let b : List ℕ = address_text f.key.address in
      let third = in_parts (a ++ uleb e.key.place ++ uleb e.key.index) (leaves_text e.value) x (b ++ uleb f.key.place ++ uleb f.key.index) (leaves_text f.value) y g in
      let second = in_parts (a ++ uleb e.key.place) (uleb e.key.index) (leaves_text e.value ++ x) (b ++ uleb f.key.place) (uleb f.key.index) (leaves_text f.value ++ y) third in
      let first = in_parts a (uleb e.key.place) (uleb e.key.index ++ (leaves_text e.value ++ x)) b (uleb f.key.place) (uleb f.key.index ++ (leaves_text f.value ++ y)) second in
      let address = whole-one address_from address_text address_fits address-whole e.key.address f.key.address _ _ (entry_addressed e p) (entry_addressed f q) first in
      let place = uleb-one e.key.place f.key.place _ _ address.1 in
      let index = uleb-one e.key.index f.key.index _ _ place.1 in
      entry-one e f x y p q address.0 place.0 index.0 index.1

  -- a stored value of this struct
  abbrev IsFineUnder : Definition → Entry → Type 0
  IsFineUnder d e = (is_fine_entry modules e ≡ true) × (is_under d e ≡ true)

  -- a stored value of a struct that is known
  addressed-one : (d : Definition) → IsOneOn (IsFineUnder d) addressed_text
  addressed-one d e f x y p q g =
      let a = and_parts (e.key.place == d.place) (e.key.index == d.index) p.1 in
      let b = and_parts (f.key.place == d.place) (f.key.index == d.index) q.1 in
      let place : e.key.place ≡ f.key.place = eqb-true e.key.place d.place a.0 ∙ sym (eqb-true f.key.place d.place b.0) in
      let index : e.key.index ≡ f.key.index = eqb-true e.key.index d.index a.1 ∙ sym (eqb-true f.key.index d.index b.1) in
      let first = in_parts (address_text e.key.address) (leaves_text e.value) x (address_text f.key.address) (leaves_text f.value) y g in
      let address = whole-one address_from address_text address_fits address-whole e.key.address f.key.address _ _ (entry_addressed e p.0) (entry_addressed f q.0) first in
      entry-one e f x y p.0 q.0 address.0 place index address.1

  -- each stored value is fine
  pub each_fine : (es : Storage) → is_fine_storage modules es ≡ true → AllByRecursion (λ e. is_fine_entry modules e ≡ true) es
  each_fine [] h = tt
  each_fine (e ∷ es) h = let p = and_parts (is_fine_entry modules e) (is_fine_storage modules es) h in (p.0, each_fine es p.1)

  -- those of a struct are
  fine_under : (d : Definition) (es : Storage) → AllByRecursion (λ e. is_fine_entry modules e ≡ true) es → AllByRecursion (IsFineUnder d) (filter (is_under d) es)
  fine_under d [] all = tt
  fine_under d (e ∷ es) all = grind (arith, fine_under d es all.1)

  -- struct by struct the same values are stored
  structs-one : (ds : List Definition) (es fs : Storage) (x y : List ℕ) → AllByRecursion (λ e. is_fine_entry modules e ≡ true) es → AllByRecursion (λ e. is_fine_entry modules e ≡ true) fs
      → flat_map (struct_text es) ds ++ x ≡ flat_map (struct_text fs) ds ++ y → AllByRecursion (λ d. filter (is_under d) es ≡ filter (is_under d) fs) ds × (x ≡ y)
  structs-one [] es fs x y p q g = (tt, g)
  structs-one (d ∷ ds) es fs x y p q g =
      let parts = in_parts (struct_text es d) (flat_map (struct_text es) ds) x (struct_text fs d) (flat_map (struct_text fs) ds) y g in
      let first = counted-one (IsFineUnder d) addressed_text (addressed-one d) (filter (is_under d) es) (filter (is_under d) fs) _ _ (fine_under d es p) (fine_under d fs q) parts in
      let rest = structs-one ds es fs x y p q first.1 in
      ((first.0, rest.0), rest.1)

-- ---- storages with the same values of each struct

under_own : (e : Entry) → is_under (struct_under e.key) e ≡ true
under_own e = and_from (e.key.place == e.key.place) (e.key.index == e.key.index) (eq-eqb e.key.place e.key.place refl) (eq-eqb e.key.index e.key.index refl)

above_filter : (key : Key) (p : Entry → Bool) (es : Storage) → AreAbove key es → AreAbove key (filter p es)
above_filter key p [] above = tt
above_filter key p (e ∷ es) above = grind (arith, above_filter key p es above.1)

-- what passes stands in front
first_passes : (p : Entry → Bool) (e : Entry) (es : Storage) → p e ≡ true → filter p (e ∷ es) ≡ e ∷ filter p es
first_passes p e es is = ap (λ (b : Bool). cond b (e ∷ filter p es) (filter p es)) is

module _ (K : Definition → Type 0) where
  -- of each such struct the same values are stored
  abbrev Agree : Storage → Storage → Type 0
  Agree es fs = (d : Definition) → K d → filter (is_under d) es ≡ filter (is_under d) fs

  abbrev AreKeyed : Storage → Type 0
  AreKeyed es = AllByRecursion (λ e. K (struct_under e.key)) es

  -- a storage's first value is no lower than another's
  not_before : (e : Entry) (es fs : Storage) → K (struct_under e.key) → AreAbove e.key fs → filter (is_under (struct_under e.key)) (e ∷ es) ≡ filter (is_under (struct_under e.key)) fs → ⊥
  not_before e es fs keyed above same =
      let p : Entry → Bool = is_under (struct_under e.key) in
      let is : filter p fs ≡ e ∷ filter p es = sym same ∙ first_passes p e es (under_own e) in
      let low : AreAbove e.key (e ∷ filter p es) = subst (AreAbove e.key) is (above_filter e.key p fs above) in
      before-clash e.key e.key low.0 low.0

  one_storage : (es fs : Storage) → IsAscending es → IsAscending fs → AreKeyed es → AreKeyed fs → Agree es fs → es ≡ fs
  one_storage [] [] up rise p q agree = refl
  one_storage [] (f ∷ fs) up rise p q agree =
      let same : [] ≡ f ∷ filter (is_under (struct_under f.key)) fs = agree (struct_under f.key) q.0 ∙ first_passes (is_under (struct_under f.key)) f fs (under_own f) in
      absurd cc
  one_storage (e ∷ es) [] up rise p q agree =
      let same : [] ≡ e ∷ filter (is_under (struct_under e.key)) es = sym (agree (struct_under e.key) p.0) ∙ first_passes (is_under (struct_under e.key)) e es (under_own e) in
      absurd cc
  one_storage (e ∷ es) (f ∷ fs) up rise p q agree = by_order (keys_compare e.key f.key) (one_storage es fs up.1 rise.1 p.1 q.1)
    where
      by_key : e.key ≡ f.key → (Agree es fs → es ≡ fs) → e ∷ es ≡ f ∷ fs
      by_key same go =
          let d : Definition = struct_under e.key in
          let here : is_under d f ≡ true = subst (λ (k : Key). ((k.place == d.place) && (k.index == d.index)) ≡ true) same (under_own e) in
          let both : e ∷ filter (is_under d) es ≡ f ∷ filter (is_under d) fs = sym (first_passes (is_under d) e es (under_own e)) ∙ agree d p.0 ∙ first_passes (is_under d) f fs here in
          let first : e ≡ f = cc in
          let rest : es ≡ fs = go (λ c keyed. behind c first (agree c keyed)) in
          ap₂ (λ (x : Entry) (xs : Storage). x ∷ xs) first rest
        where
          behind : (c : Definition) → e ≡ f → filter (is_under c) (e ∷ es) ≡ filter (is_under c) (f ∷ fs) → filter (is_under c) es ≡ filter (is_under c) fs
          behind c first g = grind (arith, ap (is_under c) first)

      by_order : (same_key e.key f.key ≡ true) ⊎ ((key_before e.key f.key ≡ true) ⊎ (key_before f.key e.key ≡ true)) → (Agree es fs → es ≡ fs) → e ∷ es ≡ f ∷ fs
      by_order (inl same) go = by_key (same_key-to e.key f.key same) go
      by_order (inr (inl before)) go = absurd (not_before e es (f ∷ fs) p.0 (before, above-below e.key f.key fs before rise.0) (agree (struct_under e.key) p.0))
      by_order (inr (inr after)) go = absurd (not_before f fs (e ∷ es) q.0 (after, above-below f.key e.key es after up.0) (sym (agree (struct_under f.key) q.0)))

-- ---- storages

module _ (modules : List Module) (es fs : Storage) (fine : is_fine_storage modules es ≡ true) (also : is_fine_storage modules fs ≡ true) where
  all_keyed : (gs : Storage) → AllByRecursion (λ e. is_fine_entry modules e ≡ true) gs → AllByRecursion (λ e. IsKeyed modules (struct_under e.key)) gs
  all_keyed [] all = tt
  all_keyed (g ∷ gs) all = (entry_keyed modules g all.0, all_keyed gs all.1)

  -- by ascending key
  pub first_storage-one : (x y : List ℕ) → counted stored_text es ++ x ≡ counted stored_text fs ++ y → (es ≡ fs) × (x ≡ y)
  first_storage-one x y g = counted-one (λ e. is_fine_entry modules e ≡ true) stored_text (stored-one modules) es fs x y (each_fine modules es fine) (each_fine modules fs also) g

  -- struct by struct
  pub second_storage-one : (x y : List ℕ) → IsAscending es → IsAscending fs → flat_map (struct_text es) (keyed_from 0 modules) ++ x ≡ flat_map (struct_text fs) (keyed_from 0 modules) ++ y
      → (es ≡ fs) × (x ≡ y)
  second_storage-one x y up rise g =
      let all = structs-one modules (keyed_from 0 modules) es fs x y (each_fine modules es fine) (each_fine modules fs also) g in
      let agree : Agree (IsKeyed modules) es fs = λ d keyed. keyed_each (λ (d : Definition). filter (is_under d) es ≡ filter (is_under d) fs) 0 modules all.0 d.place d.index d.place (omega arith)
      keyed in
      (one_storage (IsKeyed modules) es fs up rise (all_keyed es (each_fine modules es fine)) (all_keyed fs (each_fine modules fs also)) agree, all.1)
