-- What is asked of a ledger by names and addresses.
--   tally-found, no-tally      the tally of a struct stands in its module's list, by its index
--   tally-told, tally-untold   so this is what a ledger tells of it
--   list-none, list-some       the tallies of the module at a place
--   found-is, none-is          a search by index finds it there
--   none-left, one-left        the module at a place has a name, and is the next one
--   one-under                  the values under a key are one, where there is one
--   published-is, tallies-are  what a ledger holds, by its parts
--   entry-here                 the value of a struct at an address
use Rattle.mv_ledger.proofs.Common.{[], ◌++◌, ◌+◌, ◌<◌, ◌∙◌, ◌∷◌, ◌≡◌, ◌≤◌, Bool, Err, List, None, Ok, Option, Some, ap, arith, false, length, map, option_map, refl, subst, sym, true, ℕ, nat_tests, length-map, AllByRecursion, ◌&&◌, nat_lt, slice_get, unwrap_or, Definition}
use Rattle.mv_ledger.proofs.Common.{Module, StructName, PublishedModule, name_at, tables_in, IsNamed, IsTalliedStore, all_of, tallied, nameless, Tally, Tallied, Global, Vec, FlatEntry, LedgerView, PublishedView, filter, storage_of, view_of}
use Rattle.std.proofs.Common.{suc, zero, ⊎_elim, ap₂, cond, drop, get_or}
use Rattle.std.proofs.lemmas.Bool.{cases_Bool, and_parts}
use Rattle.std.proofs.lemmas.List.Elements.{recursion_from_All}
use Rattle.std.proofs.lemmas.List.Kept.{AllPairs-from_increasing}
use Rattle.std.proofs.lemmas.Option.{same_Some, slice_get_within, slice_get-map}
use Rattle.std.specs.Option.{option_and_then}
use Rattle.std.proofs.lemmas.Cmp.{ranked}
use Rattle.std.specs.Prelude.{◌==◌, find, IsSome}
use Rattle.std.specs.Ordering.{nat_cmp}
use Rattle.std.specs.Borrow.{Bor}
use Rattle.std.specs.Slice.{IsItemAt}
use Rattle.mv_move_types.specs.Names.{same_struct, ModuleName}
use Rattle.mv_move_types.specs.Module.{own_name}
use Rattle.mv_move_types.specs.declared.tables.Key.{Key}
use Rattle.mv_machine.specs.Tallies.{lists_of}
use Rattle.mv_machine.specs.State.{same_key}
use Rattle.mv_binary_format.proofs.Taken.{find-map}
use Rattle.mv_interface.proofs.OwnDefinitions.{own_name-some}
use Rattle.mv_link_rules.specs.Link.{IsPublishable, IsStore}
use Rattle.mv_bound_rules.proofs.NameLemmas.{same_struct-is, same_struct-same}
use Rattle.mv_bound_rules.proofs.Entries.{got, mapped-at, missed}
use Rattle.mv_linker.proofs.StructPlaces.{place-of-struct, struct-of-place}
use Rattle.mv_linker.specs.Questions.{struct_place}
use Rattle.mv_storage.proofs.Keys.{same_key-symm}
use Rattle.mv_storage.specs.FlatStorage.{words_under}
use Rattle.mv_ledger_state.proofs.Common.{AreInOrder, ArePlaced, IsBinarySearchResult, IsNonDecreasingBy, IsNonDecreasingBy-from_default, ordering_index, get_or-map, ltb-true, ltb-false, and_from, eq-eqb, eqb-true, All-at, AreAbove, IsAscending, before-apart, same_key-to}
use Rattle.mv_ledger_state.proofs.Lists.{all-append, all-weaker}
use Rattle.mv_ledger_state.proofs.TalliedStores.{tallied-named}
use Rattle.mv_ledger_state.specs.View.{HeldView}
use Rattle.mv_ledger.specs.Marks.{marked}
use Rattle.mv_ledger.specs.Questions.{entry_of, key_in, key_of, tally_named}

-- ---- the first that passes

module _ {X : Type 0} (p : X → Bool) where
  find-past : (xs ys : List X) → AllByRecursion (λ x. p x ≡ false) xs → find p (xs ++ ys) ≡ find p ys
  find-past [] ys h = refl
  find-past (x ∷ xs) ys h = rw h.0 (find-past xs ys h.1)

  find-none : (xs : List X) → AllByRecursion (λ x. p x ≡ false) xs → find p xs ≡ None
  find-none [] h = refl
  find-none (x ∷ xs) h = rw h.0 (find-none xs h.1)

  find-before : (xs ys : List X) → AllByRecursion (λ y. p y ≡ false) ys → find p (xs ++ ys) ≡ find p xs
  find-before [] ys h = find-none ys h
  find-before (x ∷ xs) ys h =
      ⊎_elim (λ (t : p x ≡ true). rw t refl) (λ (f : p x ≡ false). rw f (find-before xs ys h)) (cases_Bool (p x))

  find-agree : (P : X → Type 0) (q : X → Bool) → ((x : X) → P x → p x ≡ q x) → (xs : List X) → AllByRecursion P xs → find p xs ≡ find q xs
  find-agree P q same [] h = refl
  find-agree P q same (x ∷ xs) h =
      ⊎_elim
      (λ (t : q x ≡ true). rw (same x h.0, t) refl)
      (λ (f : q x ≡ false). rw (same x h.0, f) (find-agree P q same xs h.1))
      (cases_Bool (q x))

  find-at : (xs : List X) (i : ℕ) (d : X) → i < length xs → p (get_or xs i d) ≡ true → ((j : ℕ) → j < i → p (get_or xs j d) ≡ false) → find p xs ≡ Some (get_or xs i d)
  find-at [] i d lt here before = absurd (omega (arith, lt))
  find-at (x ∷ xs) zero d lt here before = rw here refl
  find-at (x ∷ xs) (suc i) d lt here before = rw (before 0 (omega arith)) (find-at xs i d (omega (arith, lt)) here (λ j le. before (suc j) (omega (arith, le))))

  find-nowhere : (xs : List X) (d : X) → ((j : ℕ) → j < length xs → p (get_or xs j d) ≡ false) → find p xs ≡ None
  find-nowhere [] d none = refl
  find-nowhere (x ∷ xs) d none = rw (none 0 (omega arith)) (find-nowhere xs d (λ j le. none (suc j) (omega (arith, le))))

-- ---- tallies stand by the places of their modules

-- whether a tally is that of a struct at a place and an index
abbrev pub is_at : ℕ → ℕ → Tally → Bool
is_at place index t = (t.place == place) && (t.index == index)

elsewhere : (place index : ℕ) (t : Tally) → (t.place ≡ place → ⊥) → is_at place index t ≡ false
elsewhere place index t off =
    ⊎_elim
    (λ (here : (t.place == place) ≡ true). absurd (off (eqb-true t.place place here)))
    (λ (gone : (t.place == place) ≡ false). ap (λ (b : Bool). b && (t.index == index)) gone)
    (cases_Bool (t.place == place))

-- none of an earlier place
later-none : (place index low : ℕ) (tss : List (List Tally)) → place < low → ArePlaced low tss → AllByRecursion (λ t. is_at place index t ≡ false) (all_of tss)
later-none place index low [] lt placed = tt
later-none place index low (ts ∷ tss) lt placed =
    all-append (λ t. is_at place index t ≡ false) ts (all_of tss)
    (all-weaker (λ t. t.place ≡ low) (λ t. is_at place index t ≡ false) (λ t at. elsewhere place index t (λ e. omega (arith, lt, at, e))) ts (recursion_from_All (λ (t : Tally). t.place ≡ low) ts placed.0))
    (later-none place index (low + 1) tss (omega (arith, lt)) placed.1)

placed-find : (low k index : ℕ) (tss : List (List Tally)) → ArePlaced low tss
    → find (is_at (low + k) index) (all_of tss) ≡ find (λ (t : Tally). t.index == index) (unwrap_or (slice_get tss k) [])
placed-find low k index [] placed = refl
placed-find low zero index (ts ∷ tss) placed =
    find-before (is_at (low + 0) index) ts (all_of tss) (later-none (low + 0) index (low + 1) tss (omega arith) placed.1)
    ∙ find-agree (is_at (low + 0) index) (λ t. t.place ≡ low) (λ t. t.index == index) (λ t at. own t at) ts (recursion_from_All (λ (t : Tally). t.place ≡ low) ts placed.0)
  where
    own : (t : Tally) → t.place ≡ low → is_at (low + 0) index t ≡ (t.index == index)
    own t at = ap (λ (b : Bool). b && (t.index == index)) (eq-eqb t.place (low + 0) (omega (arith, at)))
placed-find low (suc k) index (ts ∷ tss) placed =
    find-past (is_at (low + suc k) index) ts (all_of tss)
    (all-weaker (λ t. t.place ≡ low) (λ t. is_at (low + suc k) index t ≡ false) (λ t at. elsewhere (low + suc k) index t (λ e. omega (arith, at, e))) ts (recursion_from_All (λ (t : Tally). t.place ≡ low) ts placed.0))
    ∙ (let same : low + suc k ≡ low + 1 + k = omega arith in ap (λ (n : ℕ). find (is_at n index) (all_of tss)) same)
    ∙ placed-find (low + 1) k index tss placed.1

-- ---- the tally of a struct

module _ (published : List PublishedModule) (tss : List (List Tally)) (held : IsTalliedStore published tss) (name : StructName) where
  abbrev modules : List Module
  modules = tables_in published

  -- whether it is the struct's
  abbrev is_own : Tally → Bool
  is_own t = same_struct (tallied modules t).struct name

  all-named : AllByRecursion (IsNamed modules) (all_of tss)
  all-named = recursion_from_All (IsNamed modules) (all_of tss) (tallied-named published tss held)

  -- a tally has its struct's name
  named : (t : Tally) → IsNamed modules t → name_at modules t.place t.index ≡ Some (tallied modules t).struct
  named t is = by (name_at modules t.place t.index) refl is
    where
      by : (o : Option StructName) → name_at modules t.place t.index ≡ o → IsSome o → o ≡ Some (unwrap_or o nameless)
      by None e s = let none : false ≡ true = s in cc
      by (Some n) e s = refl

  -- so the struct of the name is where its tally says
  stands : (t : Tally) → IsNamed modules t → is_own t ≡ true → struct_place modules name ≡ Some (record { place = t.place; index = t.index })
  stands t is own =
      let same : (tallied modules t).struct ≡ name = same_struct-is (tallied modules t).struct name own in
      place-of-struct published held.store t.place t.index name (named t is ∙ ap Some same)

  pub no-tally : struct_place modules name ≡ None → find (λ (t : Tallied). same_struct t.struct name) (map (tallied modules) (all_of tss)) ≡ None
  no-tally none =
      find-map (tallied modules) (λ (t : Tallied). same_struct t.struct name) (all_of tss)
      ∙ ap (option_map (tallied modules)) (find-none is_own (all_of tss) (all-weaker (IsNamed modules) (λ t. is_own t ≡ false) other (all_of tss) all-named))
    where
      other : (t : Tally) → IsNamed modules t → is_own t ≡ false
      other t is =
          ⊎_elim
          (λ (own : is_own t ≡ true). let e : None ≡ Some (record { place = t.place; index = t.index }) = sym none ∙ stands t is own in cc)
          (λ (off : is_own t ≡ false). off)
          (cases_Bool (is_own t))

  module _ (d : Definition) (at : struct_place modules name ≡ Some d) where
    own-is : (t : Tally) → IsNamed modules t → is_own t ≡ is_at d.place d.index t
    own-is t is =
        ⊎_elim
        (λ (own : is_own t ≡ true).
        let same : record { place = t.place; index = t.index } ≡ d = same_Some (record { place = t.place; index = t.index }) d (sym (stands t is own) ∙ at) in
        let place : t.place ≡ d.place = ap (λ (x : Definition). x.place) same in
        let index : t.index ≡ d.index = ap (λ (x : Definition). x.index) same in
        own ∙ sym (and_from (t.place == d.place) (t.index == d.index) (eq-eqb t.place d.place place) (eq-eqb t.index d.index index)))
        (λ (off : is_own t ≡ false).
        ⊎_elim
        (λ (here : is_at d.place d.index t ≡ true).
        let parts = and_parts (t.place == d.place) (t.index == d.index) here in
        let place : t.place ≡ d.place = eqb-true t.place d.place parts.0 in
        let index : t.index ≡ d.index = eqb-true t.index d.index parts.1 in
        let there : name_at modules t.place t.index ≡ Some name = ap₂ (name_at modules) place index ∙ struct-of-place published held.store name d at in
        let same : (tallied modules t).struct ≡ name = same_Some (tallied modules t).struct name (sym (named t is) ∙ there) in
        let own : is_own t ≡ true = ap (λ (n : StructName). same_struct n name) same ∙ same_struct-same name in
        let e : false ≡ true = sym off ∙ own in
        cc)
        (λ (gone : is_at d.place d.index t ≡ false). off ∙ sym gone)
        (cases_Bool (is_at d.place d.index t)))
        (cases_Bool (is_own t))

    pub tally-found : find (λ (t : Tallied). same_struct t.struct name) (map (tallied modules) (all_of tss))
        ≡ option_map (tallied modules) (find (λ (t : Tally). t.index == d.index) (unwrap_or (slice_get tss d.place) []))
    tally-found =
        find-map (tallied modules) (λ (t : Tallied). same_struct t.struct name) (all_of tss)
        ∙ ap (option_map (tallied modules))
        (find-agree is_own (IsNamed modules) (is_at d.place d.index) own-is (all_of tss) all-named
        ∙ (let same : d.place ≡ 0 + d.place = omega arith in ap (λ (n : ℕ). find (is_at n d.index) (all_of tss)) same)
        ∙ placed-find 0 d.place d.index tss held.placed)

    -- so this is what the ledger tells of it
    pub tally-told : (v : LedgerView) → v.published ≡ published → v.tallies ≡ map (tallied modules) (all_of tss) → (o : Option Tally)
        → o ≡ find (λ (t : Tally). t.index == d.index) (unwrap_or (slice_get tss d.place) []) → option_map (tallied (tables_in v.published)) o ≡ tally_named v.tallies name
    tally-told v same tallies o o_is =
        ap₂ (λ (ps : List PublishedModule) (x : Option Tally). option_map (tallied (tables_in ps)) x) same o_is
        ∙ sym tally-found ∙ ap (λ (ts : List Tallied). tally_named ts name) (sym tallies)

  -- nor does the ledger tell one of a struct that isn't published
  pub tally-untold : (v : LedgerView) → v.tallies ≡ map (tallied modules) (all_of tss) → struct_place modules name ≡ None → None ≡ tally_named v.tallies name
  tally-untold v tallies none = sym (no-tally none) ∙ ap (λ (ts : List Tallied). tally_named ts name) (sym tallies)

-- the tallies of the module at a place, as they were asked for
module _ (ls : List (Vec Tally Global)) (tss : List (List Tally)) (place : ℕ) (is : lists_of ls ≡ tss) where
  pub list-none : IsItemAt ls place None → slice_get tss place ≡ None
  list-none none =
      ap (λ (x : List (List Tally)). slice_get x place) (sym is) ∙ slice_get-map (λ (w : Vec Tally Global). w.items) ls place
      ∙ ap (option_map (λ (w : Vec Tally Global). w.items)) (missed ls ls place place refl refl none)

  pub list-some : (x : Bor (Vec Tally Global)) → IsItemAt ls place (Some x) → slice_get tss place ≡ Some x.now.items
  list-some x item =
      ap (λ (y : List (List Tally)). slice_get y place) (sym is) ∙ slice_get-map (λ (w : Vec Tally Global). w.items) ls place
      ∙ ap (option_map (λ (w : Vec Tally Global). w.items)) (got ls ls place place x refl refl item)

-- ---- a search by index

module _ (index : ℕ) (ts : List Tally) (ordered : AreInOrder ts) (d : Tally) where
  -- each index is below the later ones
  rises : (i j : ℕ) → i < j → j < length ts → (get_or ts i d).index < (get_or ts j d).index
  rises i j lt below =
      let less = AllPairs-from_increasing (map (λ (t : Tally). t.index) ts) ordered i j 0 lt (omega (arith, below, length-map ts (λ (t : Tally). t.index))) in
      omega (arith, less, get_or-map (λ (t : Tally). t.index) ts i d 0 (omega (arith, lt, below)), get_or-map (λ (t : Tally). t.index) ts j d 0 below)

  searchable : IsNonDecreasingBy (λ (t : Tally). ordering_index (nat_cmp t.index index)) ts
  searchable = IsNonDecreasingBy-from_default (λ (t : Tally). ordering_index (nat_cmp t.index index)) ts d (λ i j le below.
      let rise : (get_or ts i d).index ≤ (get_or ts j d).index = grind (arith, rises i j, λ (same : i ≡ j). ap (λ k. (get_or ts k d).index) same) in
      grind (arith, nat_tests))

  pub found-is : (i : ℕ) → i < length ts → IsBinarySearchResult (λ (t : Tally). nat_cmp t.index index) ts (Ok i) → find (λ (t : Tally). t.index == index) ts ≡ Some (get_or ts i d)
  found-is i lt found =
      let here : (get_or ts i d).index ≡ index = ranked _ index _ (sym (found d)) in
      find-at (λ (t : Tally). t.index == index) ts i d lt (eq-eqb (get_or ts i d).index index here) (λ j before.
      let less : (get_or ts j d).index < (get_or ts i d).index = rises j i before lt in
      grind (arith, nat_tests, here))

  pub none-is : (i : ℕ) → IsBinarySearchResult (λ (t : Tally). nat_cmp t.index index) ts (Err i) → find (λ (t : Tally). t.index == index) ts ≡ None
  none-is i parted = find-nowhere (λ (t : Tally). t.index == index) ts d (λ j below. by j below (nat_lt j i) refl)
    where
      by : (j : ℕ) → j < length ts → (b : Bool) → nat_lt j i ≡ b → ((get_or ts j d).index == index) ≡ false
      by j below true before = let less : (get_or ts j d).index < index = ranked _ index _ (sym ((parted searchable).0 j d (omega arith) (ltb-true j i before))) in grind (arith, nat_tests)
      by j below false after = let more : index < (get_or ts j d).index = ranked _ index _ (sym ((parted searchable).1 j d (ltb-false j i after) below)) in grind (arith, nat_tests)

-- ---- the names of modules

drop-at : {X : Type 0} (xs : List X) (n : ℕ) (x : X) → slice_get xs n ≡ Some x → drop n xs ≡ x ∷ drop (n + 1) xs
drop-at [] n x e = cc
drop-at (y ∷ ys) zero x e = let same : y ≡ x = cc in ap (λ z. z ∷ ys) same
drop-at (y ∷ ys) (suc n) x e = let more : suc (n + 1) ≡ suc n + 1 = omega arith in drop-at ys n x e ∙ ap (λ (k : ℕ). x ∷ drop k (y ∷ ys)) more

drop-past : {X Y : Type 0} (f : X → Y) (xs : List X) (n : ℕ) → slice_get (map f xs) n ≡ None → drop n xs ≡ []
drop-past f [] zero e = refl
drop-past f [] (suc n) e = refl
drop-past f (y ∷ ys) zero e = cc
drop-past f (y ∷ ys) (suc n) e = drop-past f ys n e

module _ (store : List PublishedModule) (is : IsStore store) (place : ℕ) where
  -- no module is left where none at the place has a name
  pub none-left : option_and_then own_name (slice_get (tables_in store) place) ≡ None → drop place store ≡ []
  none-left = by (slice_get (tables_in store) place) refl
    where
      by : (o : Option Module) → slice_get (tables_in store) place ≡ o → option_and_then own_name o ≡ None → drop place store ≡ []
      by None at e = drop-past (λ (p : PublishedModule). p.tables) store place at
      by (Some m) at e =
          let p = mapped-at (λ (p : PublishedModule). p.tables) store place m at in
          let passed : IsPublishable p.0 = All-at IsPublishable store place p.0 is.passed p.1 in
          let named = own_name-some p.0.tables passed.sound.bounds in
          let e2 : None ≡ Some named.0 = sym e ∙ ap own_name (sym p.2) ∙ named.1 in
          cc

  -- otherwise it is the next one
  pub one-left : (name : ModuleName) → option_and_then own_name (slice_get (tables_in store) place) ≡ Some name
      → (p : PublishedModule) × (drop place store ≡ p ∷ drop (place + 1) store) × (own_name p.tables ≡ Some name)
  one-left name = by (slice_get (tables_in store) place) refl
    where
      by : (o : Option Module) → slice_get (tables_in store) place ≡ o → option_and_then own_name o ≡ Some name
          → (p : PublishedModule) × (drop place store ≡ p ∷ drop (place + 1) store) × (own_name p.tables ≡ Some name)
      by None at e = cc
      by (Some m) at e =
          let p = mapped-at (λ (p : PublishedModule). p.tables) store place m at in
          (p.0, drop-at store place p.0 p.1, ap own_name p.2 ∙ e)

  -- and the place is one of the store
  pub place-below : (name : ModuleName) → option_and_then own_name (slice_get (tables_in store) place) ≡ Some name → place < length store
  place-below name = by (slice_get (tables_in store) place) refl
    where
      by : (o : Option Module) → slice_get (tables_in store) place ≡ o → option_and_then own_name o ≡ Some name → place < length store
      by None at e = cc
      by (Some m) at e = let p = mapped-at (λ (p : PublishedModule). p.tables) store place m at in slice_get_within store place p.0 p.1

-- ---- the value under a key

-- a stored value by its key and its words
abbrev pub entry : Key → List ℕ → FlatEntry
entry key words = record { key = key; words = words }

module _ (modules : List Module) (key : Key) where
  -- none where all keys stand above
  none-above : (es : List FlatEntry) → AreAbove key (storage_of modules es) → filter (λ (e : FlatEntry). same_key e.key key) es ≡ []
  none-above [] above = refl
  none-above (e ∷ es) above =
      let apart : same_key e.key key ≡ false = same_key-symm e.key key ∙ before-apart key e.key above.0 in
      rw apart (none-above es above.1)

  -- one where there is one
  pub one-under : (words : List ℕ) (es : List FlatEntry) → IsAscending (storage_of modules es) → words_under es key ≡ Some words
      → filter (λ (e : FlatEntry). same_key e.key key) es ≡ record { key = key; words = words } ∷ []
  one-under words [] up found = cc
  one-under words (e ∷ es) up found = by (same_key e.key key) refl (one-under words es up.1)
    where
      by : (b : Bool) → same_key e.key key ≡ b → (words_under es key ≡ Some words → filter (λ (f : FlatEntry). same_key f.key key) es ≡ record { key = key; words = words } ∷ [])
          → filter (λ (f : FlatEntry). same_key f.key key) (e ∷ es) ≡ record { key = key; words = words } ∷ []
      by true here rest =
          let same : e.key ≡ key = same_key-to e.key key here in
          let held : e.words ≡ words = same_Some e.words words (sym (ap (λ b. cond b (Some e.words) (words_under es key)) here) ∙ found) in
          ap (λ b. cond b (e ∷ filter (λ (f : FlatEntry). same_key f.key key) es) (filter (λ (f : FlatEntry). same_key f.key key) es)) here
          ∙ ap₂ (λ (f : FlatEntry) (fs : List FlatEntry). f ∷ fs) (ap₂ (λ (k : Key) (ws : List ℕ). entry k ws) same held)
          (none-above es (subst (λ (k : Key). AreAbove k (storage_of modules es)) same up.0))
      by false apart rest =
          ap (λ b. cond b (e ∷ filter (λ (f : FlatEntry). same_key f.key key) es) (filter (λ (f : FlatEntry). same_key f.key key) es)) apart
          ∙ rest (sym (ap (λ b. cond b (Some e.words) (words_under es key)) apart) ∙ found)

-- ---- what a ledger holds, by its parts

module _ (p q : PublishedView) (stored : List FlatEntry) (runs : ℕ) (marks : List HeldView) (v : LedgerView) (same : p ≡ q)
    (is : marked (view_of q.modules stored (all_of q.tallies) runs) marks ≡ v) where
  pub published-is : v.published ≡ p.modules
  published-is = ap (λ (w : LedgerView). w.published) (sym is) ∙ ap (λ (x : PublishedView). x.modules) (sym same)

  pub tallies-are : v.tallies ≡ map (tallied (tables_in p.modules)) (all_of p.tallies)
  tallies-are =
      ap (λ (w : LedgerView). w.tallies) (sym is) ∙ ap (λ (x : PublishedView). map (tallied (tables_in x.modules)) (all_of x.tallies)) (sym same)

-- ---- the value of a struct at an address

module _ (v : LedgerView) (ps : List PublishedModule) (stored : List FlatEntry) (published : v.published ≡ ps) (held : v.stored ≡ stored) (address : ℕ) (name : StructName) where
  keyed : (d : Definition) → struct_place (tables_in ps) name ≡ Some d → key_of v address name ≡ Some (key_in address d)
  keyed d at = ap (λ (xs : List PublishedModule). option_map (key_in address) (struct_place (tables_in xs) name)) published ∙ ap (option_map (key_in address)) at

  pub entry-here : (d : Definition) → struct_place (tables_in ps) name ≡ Some d → (o : Option (List ℕ)) → words_under stored (key_in address d) ≡ o
      → entry_of v address name ≡ option_map (entry (key_in address d)) o
  entry-here d at o found =
      ap (option_and_then (λ (key : Key). option_map (entry key) (words_under v.stored key))) (keyed d at)
      ∙ ap (λ (es : List FlatEntry). option_map (entry (key_in address d)) (words_under es (key_in address d))) held
      ∙ ap (option_map (entry (key_in address d))) found
