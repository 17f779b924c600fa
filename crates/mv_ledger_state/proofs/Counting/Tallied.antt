-- The tallies stay those of the structs with neither copy nor drop, and balanced, after a run that returned and where a bundle is published.
use Rattle.mv_ledger_state.proofs.Common.{[], ◌++◌, ◌+◌, ◌∙◌, ◌∷◌, ◌≡◌, ◌⊎◌, Bool, List, None, Option, Some, ap, ap₂, arith, cond, false, inl, inr, map, refl, subst, suc, sym, true, zero, ℕ, same_Some}
use Rattle.mv_ledger_state.proofs.Common.{AllByRecursion, cons_option, option_map_or, ◌&&◌, filter_map, find, not, slice_get, unwrap_or, Module, StructDefinition, name_of_struct, struct_abilities}
use Rattle.mv_ledger_state.proofs.Common.{declared, StructName, same_struct, is_scarce_struct, Abilities, count, scarce_name, scarce_structs, tally_of, tally_with, untouched_tally, Tallied, packs}
use Rattle.mv_ledger_state.proofs.Common.{unpacks, Event, Storage, same_struct-is, same_struct-same, on_found, Conserves, IsAbleStore, IsScarce, StorageIsKept}
use Rattle.mv_ledger_state.proofs.Counting.Packs.{HandlesDeclared, each-declared}
use Rattle.mv_ledger_state.proofs.Counting.Declared.{definition-declared, declared-by, Remembers, unknown-stored}
use Rattle.mv_ledger_state.proofs.Lists.{all-append}
use Rattle.mv_ledger_state.proofs.Runs.TalliesAfter.{map-then}

-- ---- the structs with neither copy nor drop, each of which has a tally

-- ---- the tallied structs are scarce

all-filter_map : {A B : Type 0} (P : B → Type 0) (f : A → Option B) (xs : List A) → ((x : A) (y : B) → f x ≡ Some y → P y) → AllByRecursion P (filter_map f xs)
all-filter_map P f [] h = tt
all-filter_map P f (x ∷ xs) h = grind (arith, h x, all-filter_map P f xs h)

scarce_name-scarce : (modules : List Module) (m : Module) (d : StructDefinition) (name : StructName) → HandlesDeclared modules m → scarce_name m d ≡ Some name → IsScarce modules name
scarce_name-scarce modules m d name declares e =
    let both : (is_scarce_struct m d ≡ true) × (name_of_struct m d ≡ Some name) = grind arith in
    on_found (λ (a : Abilities). not a.copy && not a.drop) (struct_abilities m d) both.0 (λ a a_is lacks.
    record { abilities = a; is_declared = definition-declared modules m d name a declares both.1 a_is; copy = grind arith; drop = grind arith })

scarce-some : (modules ms : List Module) → AllByRecursion (HandlesDeclared modules) ms → AllByRecursion (IsScarce modules) (scarce_structs ms)
scarce-some modules [] declares = tt
scarce-some modules (m ∷ ms) declares =
    all-append (IsScarce modules) (filter_map (scarce_name m) m.structs) (scarce_structs ms)
    (all-filter_map (IsScarce modules) (scarce_name m) m.structs (λ d name e. scarce_name-scarce modules m d name declares.0 e))
    (scarce-some modules ms declares.1)

pub scarce-all : (modules : List Module) → IsAbleStore modules → AllByRecursion (IsScarce modules) (scarce_structs modules)
scarce-all modules store = scarce-some modules modules (each-declared modules modules store.structs)

-- ---- a scarce struct is among the tallied ones

-- some element is such
abbrev pub SomeOf : {A : Type 0} → (A → Type 0) → List A → Type 0
SomeOf P [] = ⊥
SomeOf P (x ∷ xs) = P x ⊎ SomeOf P xs

pub some-map : {A B : Type 0} (P : B → Type 0) (f : A → B) (xs : List A) → SomeOf P (map f xs) → SomeOf (λ x. P (f x)) xs
some-map P f [] s = absurd s
some-map P f (x ∷ xs) (inl p) = inl p
some-map P f (x ∷ xs) (inr s) = inr (some-map P f xs s)

-- what some element is and each one is
pub some-each : {A C : Type 0} (P Q : A → Type 0) (xs : List A) → ((x : A) → P x → Q x → C) → SomeOf P xs → AllByRecursion Q xs → C
some-each P Q [] f s a = absurd s
some-each P Q (x ∷ xs) f (inl p) a = f x p a.0
some-each P Q (x ∷ xs) f (inr s) a = some-each P Q xs f s a.1

some-left : {A : Type 0} (P : A → Type 0) (xs ys : List A) → SomeOf P xs → SomeOf P (xs ++ ys)
some-left P [] ys s = absurd s
some-left P (x ∷ xs) ys (inl p) = inl p
some-left P (x ∷ xs) ys (inr s) = inr (some-left P xs ys s)

some-right : {A : Type 0} (P : A → Type 0) (xs ys : List A) → SomeOf P ys → SomeOf P (xs ++ ys)
some-right P [] ys s = s
some-right P (x ∷ xs) ys s = inr (some-right P xs ys s)

among-definitions : (m : Module) (ds : List StructDefinition) (i : ℕ) (d : StructDefinition) (name : StructName) → slice_get ds i ≡ Some d → scarce_name m d ≡ Some name → SomeOf (λ y. y ≡ name)
    (filter_map (scarce_name m) ds)
among-definitions m [] i d name e g = absurd cc
among-definitions m (x ∷ xs) zero d name e g =
    let here : scarce_name m x ≡ Some name = ap (scarce_name m) (same_Some x d e) ∙ g in
    rw here (inl refl)
among-definitions m (x ∷ xs) (suc i) d name e g =
    let rest = among-definitions m xs i d name e g in
    elim (scarce_name m x) as (λ o. SomeOf (λ y. y ≡ name) (cons_option o (filter_map (scarce_name m) xs))) [ Some n ↦ inr rest | None ↦ rest ]

pub scarce-among : (ms : List Module) (name : StructName) (place i : ℕ) (m : Module) (d : StructDefinition) → slice_get ms place ≡ Some m → slice_get m.structs i ≡ Some d
    → scarce_name m d ≡ Some name → SomeOf (λ x. x ≡ name) (scarce_structs ms)
scarce-among [] name place i m d m_is d_is e = absurd cc
scarce-among (x ∷ xs) name zero i m d m_is d_is e =
    some-left (λ y. y ≡ name) (filter_map (scarce_name x) x.structs) (scarce_structs xs)
    (subst (λ (z : Module). SomeOf (λ y. y ≡ name) (filter_map (scarce_name z) z.structs)) (sym (same_Some x m m_is)) (among-definitions m m.structs i d name d_is e))
scarce-among (x ∷ xs) name (suc place) i m d m_is d_is e =
    some-right (λ y. y ≡ name) (filter_map (scarce_name x) x.structs) (scarce_structs xs) (scarce-among xs name place i m d m_is d_is e)

-- a definition without copy and drop is scarce
pub scarce_name-is : (m : Module) (d : StructDefinition) (name : StructName) (a : Abilities) → name_of_struct m d ≡ Some name → struct_abilities m d ≡ Some a → a.copy ≡ false → a.drop ≡ false
    → scarce_name m d ≡ Some name
scarce_name-is m d name a name_is a_is c dr =
    let both : is_scarce_struct m d ≡ true =
    ap (λ (o : Option Abilities). option_map_or (λ (a : Abilities). not a.copy && not a.drop) o false) a_is ∙ ap₂ (λ (x y : Bool). not x && not y) c dr in
    ap (λ (b : Bool). cond b (name_of_struct m d) None) both ∙ name_is

-- as many values of the struct are stored as were made and not taken apart
abbrev pub Balanced : Storage → Tallied → Type 0
Balanced storage t = count storage t.struct + t.unpacks ≡ t.packs

-- these are the tallies of the structs with neither copy nor drop, in order, and they are balanced
pub record AreBalanced (modules : List Module) (storage : Storage) (tallies : List Tallied) : Type 0 where
  pub tallied : map (λ (t : Tallied). t.struct) tallies ≡ scarce_structs modules
  pub balanced : AllByRecursion (Balanced storage) tallies

-- ---- a run that returned

scarce-tallied : (modules : List Module) (ts : List Tallied) → AllByRecursion (IsScarce modules) (map (λ (t : Tallied). t.struct) ts) → AllByRecursion (λ (t : Tallied). IsScarce modules t.struct) ts
scarce-tallied modules [] a = tt
scarce-tallied modules (t ∷ ts) a = (a.0, scarce-tallied modules ts a.1)

names-stay : (events : List Event) (ts : List Tallied) → map (λ (t : Tallied). t.struct) (map (tally_with events) ts) ≡ map (λ (t : Tallied). t.struct) ts
names-stay events ts = map-then (tally_with events) (λ (t : Tallied). t.struct) ts

balances-stay : (modules : List Module) (old new : Storage) (events : List Event) (ts : List Tallied) → Conserves modules old new events
    → AllByRecursion (λ (t : Tallied). IsScarce modules t.struct) ts → AllByRecursion (Balanced old) ts → AllByRecursion (Balanced new) (map (tally_with events) ts)
balances-stay modules old new events [] c scarce b = tt
balances-stay modules old new events (t ∷ ts) c scarce b =
    let moved : count new t.struct + unpacks t.struct events ≡ count old t.struct + packs t.struct events = c.balanced t.struct scarce.0 in
    let before : count old t.struct + t.unpacks ≡ t.packs = b.0 in
    (omega (arith, moved, before), balances-stay modules old new events ts c scarce.1 b.1)

pub returned-balanced : (modules : List Module) (old new : Storage) (events : List Event) (ts : List Tallied) → IsAbleStore modules → AreBalanced modules old ts → Conserves modules old new events →
    AreBalanced modules new (map (tally_with events) ts)
returned-balanced modules old new events ts store are c = record {
  tallied = names-stay events ts ∙ are.tallied;
  balanced = balances-stay modules old new events ts c (scarce-tallied modules ts (subst (AllByRecursion (IsScarce modules)) (sym are.tallied) (scarce-all modules store))) are.balanced;
}

-- ---- a bundle

found-each : {A : Type 0} (P : A → Type 0) (test : A → Bool) (xs : List A) (x : A) → AllByRecursion P xs → find test xs ≡ Some x → P x × (test x ≡ true)
found-each P test [] x a e = absurd cc
found-each P test (y ∷ ys) x a e = grind (arith, found-each P test ys x a.1)

none-passes : {A : Type 0} (test : A → Bool) (xs : List A) → find test xs ≡ None → AllByRecursion (λ x. test x ≡ false) xs
none-passes test [] e = tt
none-passes test (y ∷ ys) e = grind (arith, none-passes test ys)

module _ (old new : List Module) (storage : Storage) (tallies : List Tallied) (kept : StorageIsKept old storage) (are : AreBalanced old storage tallies) (remembers : Remembers old new) where
  abbrev is_of : StructName → Tallied → Bool
  is_of name t = same_struct t.struct name

  -- a struct without a tally has no values
  untallied-none : (name : StructName) → IsScarce new name → find (is_of name) tallies ≡ None → count storage name ≡ 0
  untallied-none name scarce none = by_case (declared old name) refl
    where
      by_case : (o : Option Abilities) → declared old name ≡ o → count storage name ≡ 0
      by_case None e = unknown-stored old name e storage kept
      by_case (Some a) e =
          let by = declared-by old name a e in
          let one : a ≡ scarce.abilities = same_Some a scarce.abilities (sym (remembers name a e) ∙ scarce.is_declared) in
          let named : scarce_name by.home by.definition ≡ Some name = scarce_name-is by.home by.definition name a by.name_is by.abilities_are (ap (λ (x : Abilities). x.copy) one ∙ scarce.copy)
          (ap (λ (x : Abilities). x.drop) one ∙ scarce.drop) in
          let among : SomeOf (λ x. x ≡ name) (map (λ (t : Tallied). t.struct) tallies) = subst (SomeOf (λ x. x ≡ name)) (sym are.tallied)
          (scarce-among old name by.place by.index by.home by.definition by.home_is by.definition_is named) in
          some-each (λ (t : Tallied). t.struct ≡ name) (λ (t : Tallied). is_of name t ≡ false) tallies
          (λ t same differs.
          let yes : is_of name t ≡ true = subst (λ (n : StructName). same_struct n name ≡ true) (sym same) (same_struct-same name) in
          absurd cc) (some-map (λ x. x ≡ name) (λ (t : Tallied). t.struct) tallies among) (none-passes (is_of name) tallies none)

  -- the tally that a struct goes on with
  goes-on : (name : StructName) → IsScarce new name → Balanced storage (tally_of tallies name) × ((tally_of tallies name).struct ≡ name)
  goes-on name scarce = by_case (find (is_of name) tallies) refl
    where
      by_case : (o : Option Tallied) → find (is_of name) tallies ≡ o → Balanced storage (unwrap_or o (untouched_tally name)) × ((unwrap_or o (untouched_tally name)).struct ≡ name)
      by_case (Some t) e =
          let found = found-each (Balanced storage) (is_of name) tallies t are.balanced e in
          (found.0, same_struct-is t.struct name found.1)
      by_case None e = let none : count storage name ≡ 0 = untallied-none name scarce e in (omega (arith, none), refl)

  go-on : (names : List StructName) → AllByRecursion (IsScarce new) names →
      AllByRecursion (Balanced storage) (map (tally_of tallies) names) × (map (λ (t : Tallied). t.struct) (map (tally_of tallies) names) ≡ names)
  go-on [] scarce = (tt, refl)
  go-on (n ∷ ns) scarce =
      let one = goes-on n scarce.0 in
      let rest = go-on ns scarce.1 in
      ((one.0, rest.0), ap₂ (λ (x : StructName) (xs : List StructName). x ∷ xs) one.1 rest.1)

  pub bundle-balanced : IsAbleStore new → AreBalanced new storage (map (tally_of tallies) (scarce_structs new))
  bundle-balanced store =
      let all = go-on (scarce_structs new) (scarce-all new store) in
      record { tallied = all.1; balanced = all.0 }
