-- The tallies after a bundle: each struct with neither copy nor drop has the one that it had, or an empty one.
use Rattle.mv_ledger_state.proofs.Common.{[], ◌++◌, ◌+◌, ◌<◌, ◌∙◌, ◌∷◌, ◌≡◌, Bool, List, None, Option, Some, ap, ap₂, arith, cond, drop, eq-eqb, false, map, option_map, refl, subst, suc, sym}
use Rattle.mv_ledger_state.proofs.Common.{true, zero, zero-add, ℕ, drop-append_seam, and_from, eqb-true, same_from_decides, length-map, map-append, All-head}
use Rattle.mv_ledger_state.proofs.Common.{All-tail, All-weaker, same_Some, first_so, second_so, ◌&&◌, ◌==◌, All, IsSome, filter_map, find, slice_get, unwrap_or, Module, name_at, StructName, same_struct}
use Rattle.mv_ledger_state.proofs.Common.{PublishedModule, scarce_name, scarce_structs, tally_of, untouched_tally, Tallied, some-of, same_struct-is, same_struct-same}
use Rattle.mv_ledger_state.proofs.Common.{IsStore, tables_in, index_of, nameless, AddsTallies, fresh_tally, tallies_at, ArePlaced, AreScarce, IsNamed, all_of, scarce_indices}
use Rattle.mv_ledger_state.proofs.Common.{tallied, Tally}
use Rattle.mv_ledger_state.proofs.Bundles.Places.{EachIs}
use Rattle.mv_ledger_state.proofs.Bundles.Places.{had}
use Rattle.mv_ledger_state.proofs.Bundles.Heirs.{Inherits, had-first, name-stays}
use Rattle.mv_ledger_state.proofs.Runs.ScarceTallies.{Ascends, ascend-from}
use Rattle.mv_ledger_state.proofs.Runs.TalliesAfter.{map-where, map-then}
use Rattle.mv_ledger_state.proofs.TalliedStores.{StandFrom, all-named, all-stand, head-at, map-same, name_of, names-are, tail-at}
use Rattle.mv_binary_format.proofs.Taken.{find-map}

-- ---- what is found first

-- tests that agree find the same
find-where : {A : Type 0} (P : A → Type 0) (p q : A → Bool) → ((x : A) → P x → p x ≡ q x) → (xs : List A) → All P xs → find p xs ≡ find q xs
find-where P p q agree [] all = refl
find-where P p q agree (x ∷ xs) all = ap₂ (λ b o. cond b (Some x) o) (agree x (All-head P x xs all)) (find-where P p q agree xs (All-tail P x xs all))

-- nothing is found after these
find-front : {A : Type 0} (P : A → Type 0) (p q : A → Bool) → ((x : A) → P x → p x ≡ q x) → (xs ys : List A) → All P xs → find p ys ≡ None → find p (xs ++ ys) ≡ find q xs
find-front P p q agree [] ys all none = none
find-front P p q agree (x ∷ xs) ys all none = ap₂ (λ b o. cond b (Some x) o) (agree x (All-head P x xs all)) (find-front P p q agree xs ys (All-tail P x xs all) none)

-- nor among them
find-after : {A : Type 0} (P : A → Type 0) (p : A → Bool) → ((x : A) → P x → p x ≡ false) → (xs ys : List A) → All P xs → find p (xs ++ ys) ≡ find p ys
find-after P p never [] ys all = refl
find-after P p never (x ∷ xs) ys all = ap (λ b. cond b (Some x) (find p (xs ++ ys))) (never x (All-head P x xs all)) ∙ find-after P p never xs ys (All-tail P x xs all)

-- ---- tallies by their places

-- whether a tally is of the struct at a place and an index
abbrev stands_at : ℕ → ℕ → Tally → Bool
stands_at place index t = (t.place == place) && (t.index == index)

apart : (a b : ℕ) → (a ≡ b → ⊥) → (a == b) ≡ false
apart a b other = grind (arith, eqb-true a b)

not-there : (place index other : ℕ) → (other ≡ place → ⊥) → (t : Tally) → t.place ≡ other → stands_at place index t ≡ false
not-there place index other far t at = ap (λ (b : Bool). b && (t.index == index)) (apart t.place place (λ same. far (sym at ∙ same)))

there-by-index : (place index : ℕ) (t : Tally) → t.place ≡ place → stands_at place index t ≡ (t.index == index)
there-by-index place index t at = ap (λ (b : Bool). b && (t.index == index)) (eq-eqb t.place place at)

none-before : (place index next : ℕ) (tss : List (List Tally)) → place < next → ArePlaced next tss → find (stands_at place index) (all_of tss) ≡ None
none-before place index next [] low placed = refl
none-before place index next (ts ∷ tss) low placed =
    find-after (λ (t : Tally). t.place ≡ next) (stands_at place index) (not-there place index next (λ same. omega (arith, low, same))) ts (all_of tss) placed.0
    ∙ none-before place index (next + 1) tss (omega (arith, low)) placed.1

-- a tally among all is found among those of its place
found-at : (place index : ℕ) (tss : List (List Tally)) (k : ℕ) → ArePlaced place tss → find (stands_at (place + k) index) (all_of tss) ≡ find (λ (t : Tally). t.index == index) (had tss k)
found-at place index [] k placed = refl
found-at place index (ts ∷ tss) zero placed =
    let same : place + 0 ≡ place = omega arith in
    ap (λ (n : ℕ). find (stands_at n index) (ts ++ all_of tss)) same
    ∙ find-front (λ (t : Tally). t.place ≡ place) (stands_at place index) (λ (t : Tally). t.index == index) (there-by-index place index) ts (all_of tss) placed.0
    (none-before place index (place + 1) tss (omega arith) placed.1)
found-at place index (ts ∷ tss) (suc k) placed =
    let same : place + suc k ≡ place + 1 + k = omega arith in
    find-after (λ (t : Tally). t.place ≡ place) (stands_at (place + suc k) index) (not-there (place + suc k) index place (λ e. omega (arith, e))) ts (all_of tss) placed.0
    ∙ ap (λ (n : ℕ). find (stands_at n index) (all_of tss)) same ∙ found-at (place + 1) index tss k placed.1

-- ---- a module's tallies by its structs

module _ {B : Type 0} (g : Tally → B) (place : ℕ) where
  -- the tally of an index among these, or an empty one
  abbrev resolved : List Tally → ℕ → B
  resolved ts x = unwrap_or (option_map g (find (λ (t : Tally). t.index == x) ts)) (g (fresh_tally place x))

  resolve : (ts : List Tally) (rest : List ℕ) → Ascends (map (λ (t : Tally). t.index) ts ++ rest) → map g (ts ++ map (fresh_tally place) rest) ≡ map (resolved ts)
      (map (λ (t : Tally). t.index) ts ++ rest)
  resolve [] rest up = map-then (fresh_tally place) g rest
  resolve (t ∷ ts) rest up =
      ap₂ (λ (x : B) (xs : List B). x ∷ xs) (sym (ap (λ (b : Bool). unwrap_or (option_map g (cond b (Some t) (find (λ (u : Tally). u.index == t.index) ts))) (g (fresh_tally place t.index)))
      (eq-eqb t.index t.index refl)))
      (resolve ts rest up.1 ∙ map-where (λ y. t.index < y) (resolved ts) (resolved (t ∷ ts)) other (map (λ (t : Tally). t.index) ts ++ rest) up.0)
    where
      other : (y : ℕ) → t.index < y → resolved ts y ≡ resolved (t ∷ ts) y
      other y far = sym (ap (λ (b : Bool). unwrap_or (option_map g (cond b (Some t) (find (λ (u : Tally). u.index == y) ts))) (g (fresh_tally place y)))
          (apart t.index y (λ same. omega (arith, far, same))))

-- ---- a store with its tallies

module _ (new : List PublishedModule) (store : IsStore new) (tss : List (List Tally)) (placed : ArePlaced 0 tss) (named : All (IsNamed (tables_in new)) (all_of tss)) where
  abbrev olds : List Tallied
  olds = map (tallied (tables_in new)) (all_of tss)

  -- a tally is of the struct of a name if it is of its place and index
  by_place : (place index : ℕ) (name : StructName) → name_at (tables_in new) place index ≡ Some name → (t : Tally) → IsNamed (tables_in new) t
      → same_struct (tallied (tables_in new) t).struct name ≡ stands_at place index t
  by_place place index name at t h =
      let own = some-of (name_at (tables_in new) t.place t.index) h in
      ap (λ (o : Option StructName). same_struct (unwrap_or o nameless) name) own.1
      ∙ same_from_decides {P = (t.place ≡ place) × (t.index ≡ index)} (same_struct own.0 name) (stands_at place index t) (named_so own.0 own.1, there_so own.0 own.1) (here, here_so)
    where
      named_so : (own : StructName) → name_at (tables_in new) t.place t.index ≡ Some own → same_struct own name ≡ true → (t.place ≡ place) × (t.index ≡ index)
      named_so own is e = index_of new store t.place place t.index index name (is ∙ ap Some (same_struct-is own name e)) at

      there_so : (own : StructName) → name_at (tables_in new) t.place t.index ≡ Some own → (t.place ≡ place) × (t.index ≡ index) → same_struct own name ≡ true
      there_so own is e =
          let same : name ≡ own = same_Some name own (sym at ∙ sym (ap₂ (name_at (tables_in new)) e.0 e.1) ∙ is) in
          subst (λ (n : StructName). same_struct own n ≡ true) (sym same) (same_struct-same own)

      here : stands_at place index t ≡ true → (t.place ≡ place) × (t.index ≡ index)
      here e = (eqb-true t.place place (first_so (t.place == place) (t.index == index) e), eqb-true t.index index (second_so (t.place == place) (t.index == index) e))

      here_so : (t.place ≡ place) × (t.index ≡ index) → stands_at place index t ≡ true
      here_so e = and_from (t.place == place) (t.index == index) (eq-eqb t.place place e.0) (eq-eqb t.index index e.1)

  -- the tally of a struct of the store
  old-tally : (place index : ℕ) → IsSome (name_at (tables_in new) place index) → tally_of olds (name_of new store place index) ≡ resolved (tallied (tables_in new)) place (had tss place) index
  old-tally place index h =
      let own = some-of (name_at (tables_in new) place index) h in
      let name : name_of new store place index ≡ own.0 = ap (λ (o : Option StructName). unwrap_or o nameless) own.1 in
      let found : find (λ (t : Tallied). same_struct t.struct (name_of new store place index)) olds ≡ option_map (tallied (tables_in new)) (find (λ (t : Tally). t.index == index) (had tss place)) =
      ap (λ (s : StructName). find (λ (t : Tallied). same_struct t.struct s) olds) name
      ∙ find-map (tallied (tables_in new)) (λ (t : Tallied). same_struct t.struct own.0) (all_of tss)
      ∙ ap (option_map (tallied (tables_in new)))
      (find-where (IsNamed (tables_in new)) (λ (t : Tally). same_struct (tallied (tables_in new) t).struct own.0) (stands_at place index) (by_place place index own.0 own.1) (all_of tss) named
      ∙ ap (λ (n : ℕ). find (stands_at n index) (all_of tss)) (sym (zero-add place)) ∙ found-at 0 index tss place placed) in
      ap (λ (o : Option Tallied). unwrap_or o (untouched_tally (name_of new store place index))) found

  module _ (place : ℕ) (m : Module) (at : slice_get (tables_in new) place ≡ Some m) (rest : List ℕ) (first : scarce_indices m ≡ map (λ (t : Tally). t.index) (had tss place) ++ rest) where
    -- the empty tallies are those of the structs that come after
    tallies-are : tallies_at place m (had tss place) ≡ had tss place ++ map (fresh_tally place) rest
    tallies-are =
        ap (λ (xs : List ℕ). had tss place ++ map (fresh_tally place) xs)
        (ap₂ (λ (n : ℕ) (xs : List ℕ). drop n xs) (sym (length-map (had tss place) (λ (t : Tally). t.index))) first ∙ drop-append_seam (map (λ (t : Tally). t.index) (had tss place)) rest)

    -- so each has the tally that it had, or an empty one
    pub module-tallied : map (tallied (tables_in new)) (tallies_at place m (had tss place)) ≡ map (tally_of olds) (filter_map (scarce_name m) m.structs)
    module-tallied =
        ap (map (tallied (tables_in new))) tallies-are
        ∙ resolve (tallied (tables_in new)) place (had tss place) rest (subst Ascends first (ascend-from m 0 m.structs))
        ∙ ap (map (resolved (tallied (tables_in new)) place (had tss place))) (sym first)
        ∙ sym (map-where (λ (x : ℕ). IsSome (name_at (tables_in new) place x)) (λ x. tally_of olds (name_of new store place x)) (resolved (tallied (tables_in new)) place (had tss place)) (old-tally place)
        (scarce_indices m) (all-named new store place m at))
        ∙ sym (map-then (name_of new store place) (tally_of olds) (scarce_indices m))
        ∙ ap (map (tally_of olds)) (sym (names-are new store place m at))

    -- the indices are those of its structs
    pub module-scarce : map (λ (t : Tally). t.index) (tallies_at place m (had tss place)) ≡ scarce_indices m
    module-scarce =
        ap (map (λ (t : Tally). t.index)) tallies-are
        ∙ map-append (λ (t : Tally). t.index) (had tss place) (map (fresh_tally place) rest)
        ∙ ap (λ (xs : List ℕ). map (λ (t : Tally). t.index) (had tss place) ++ xs) (map-same (fresh_tally place) (λ (t : Tally). t.index) (λ x. refl) rest)
        ∙ sym first

  module _ (firsts : (i : ℕ) (m : Module) → slice_get (tables_in new) i ≡ Some m → (rest : List ℕ) × (scarce_indices m ≡ map (λ (t : Tally). t.index) (had tss i) ++ rest)) where
    each-tallied : (place : ℕ) (ms : List Module) (after : List (List Tally)) → StandFrom new store place ms → EachIs (had tss) place ms after → map (tallied (tables_in new))
        (all_of after) ≡ map (tally_of olds) (scarce_structs ms)
    each-tallied place [] [] at e = refl
    each-tallied place (m ∷ ms) (ts ∷ after) at e =
        let here = head-at new store place m ms at in
        let first = firsts place m here in
        map-append (tallied (tables_in new)) ts (all_of after)
        ∙ ap₂ (λ (xs ys : List Tallied). xs ++ ys) (ap (map (tallied (tables_in new))) e.0 ∙ module-tallied place m here first.0 first.1)
        (each-tallied (place + 1) ms after (tail-at new store place m ms at) e.1)
        ∙ sym (map-append (tally_of olds) (filter_map (scarce_name m) m.structs) (scarce_structs ms))
    each-tallied _ _ _ _ e = absurd e

    each-scarce : (place : ℕ) (ms : List Module) (after : List (List Tally)) → StandFrom new store place ms → EachIs (had tss) place ms after → AreScarce ms after
    each-scarce place [] [] at e = tt
    each-scarce place (m ∷ ms) (ts ∷ after) at e =
        let here = head-at new store place m ms at in
        let first = firsts place m here in
        (ap (map (λ (t : Tally). t.index)) e.0 ∙ module-scarce place m here first.0 first.1, each-scarce (place + 1) ms after (tail-at new store place m ms at) e.1)
    each-scarce _ _ _ _ e = e

-- ---- a bundle

module _ (old new : List PublishedModule) (tss after : List (List Tally)) (old_store : IsStore old) (new_store : IsStore new) (inherits : Inherits (tables_in old) (tables_in new))
    (placed : ArePlaced 0 tss)
    (scarce : AreScarce (tables_in old) tss) (named : All (IsNamed (tables_in old)) (all_of tss)) (each : EachIs (had tss) 0 (tables_in new) after) where
  stays : (t : Tally) → IsNamed (tables_in old) t → IsNamed (tables_in new) t
  stays t h =
      let name = some-of (name_at (tables_in old) t.place t.index) h in
      subst (λ (o : Option StructName). IsSome o) (sym (name-stays old new old_store new_store inherits t.place t.index name.0 name.1)) refl

  named-so : All (IsNamed (tables_in new)) (all_of tss)
  named-so = All-weaker (IsNamed (tables_in old)) (IsNamed (tables_in new)) stays (all_of tss) named

  firsts-so : (i : ℕ) (m : Module) → slice_get (tables_in new) i ≡ Some m → (rest : List ℕ) × (scarce_indices m ≡ map (λ (t : Tally). t.index) (had tss i) ++ rest)
  firsts-so = had-first (tables_in old) (tables_in new) tss scarce inherits

  -- tallies keep their structs
  tallied-so : map (tallied (tables_in new)) (all_of tss) ≡ map (tallied (tables_in old)) (all_of tss)
  tallied-so = map-where (IsNamed (tables_in old)) (tallied (tables_in new)) (tallied (tables_in old)) one (all_of tss) named
    where
      named_as : Tally → Option StructName → Tallied
      named_as t name = record { struct = unwrap_or name nameless; packs = t.packs; unpacks = t.unpacks }

      one : (t : Tally) → IsNamed (tables_in old) t → tallied (tables_in new) t ≡ tallied (tables_in old) t
      one t h =
          let name = some-of (name_at (tables_in old) t.place t.index) h in
          ap (named_as t) (name-stays old new old_store new_store inherits t.place t.index name.0 name.1 ∙ sym name.1)

  pub tallies-added : AddsTallies old new (all_of tss) (all_of after)
  tallies-added =
      each-tallied new new_store tss placed named-so firsts-so 0 (tables_in new) after (all-stand new new_store) each
      ∙ ap (λ (ts : List Tallied). map (tally_of ts) (scarce_structs (tables_in new))) tallied-so

  pub scarce-added : AreScarce (tables_in new) after
  scarce-added = each-scarce new new_store tss placed named-so firsts-so 0 (tables_in new) after (all-stand new new_store) each
