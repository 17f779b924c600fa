-- The texts of stored values by ascending key, after their number, are read as what they are put into.
use Rattle.mv_saved_text.proofs.Common.{[], ◌++◌, ◌<◌, ◌^◌, ◌∙◌, ◌∷◌, ◌≡◌, ◌⊎◌, List, None, Option, Some, ap, append-nil, append_assoc, ap₂, arith, eq-eqb, false, flat_map, inl, inr, length, refl}
use Rattle.mv_saved_text.proofs.Common.{subst, suc, sym, true, zero, ℕ, and_from, and_parts, cases_eq, eqb-true, filter-append, some_pair_parts, then_some, AllByRecursion, ◌==◌, Module, ◌>>=◌}
use Rattle.mv_saved_text.proofs.Common.{Definition, Key, number_from, uleb, Front, Front-from, Front-join, number-front, number-whole, on_bind, then_some-parts, counted, AreBytes, Ascends, IsBelow}
use Rattle.mv_saved_text.proofs.Common.{FlatEntry, entry_from, group_into, groups_into, is_after, rising_into, with_entry}
use Rattle.mv_saved_text.proofs.Loads.BodyLookups.{puts, is_of, under, Ascends-under}
use Rattle.mv_saved_text.proofs.Loads.BodyEntries.{entry_text, IsEntry, entry-parts, entry-whole}
use Rattle.mv_ledger_state.proofs.Lists.{all-weaker, all-append}
use Rattle.mv_saved_text.specs.Parts.Saving.{struct_under}

-- ---- keys ascend

-- keys ascend, after a last one
abbrev pub Rises : Option Key → List FlatEntry → Type 0
Rises last [] = Unit {0}
Rises last (e ∷ es) = (is_after last e.key ≡ true) × Rises (Some e.key) es

rises-after : (k : Key) (es : List FlatEntry) → Rises (Some k) es → IsBelow k es × Ascends es
rises-after k [] h = (tt, tt)
rises-after k (e ∷ es) h = (h.0, rises-after e.key es h.1)

pub rises-ascends : (es : List FlatEntry) → Rises None es → Ascends es
rises-ascends [] h = tt
rises-ascends (e ∷ es) h = rises-after e.key es h.1

after-rises : (k : Key) (es : List FlatEntry) → IsBelow k es → Ascends es → Rises (Some k) es
after-rises k [] b up = tt
after-rises k (e ∷ es) b up = (b, after-rises e.key es up.0 up.1)

pub ascends-rises : (es : List FlatEntry) → Ascends es → Rises None es
ascends-rises [] up = tt
ascends-rises (e ∷ es) up = (refl, after-rises e.key es up.0 up.1)

-- ---- so many values

module _ (modules : List Module) (of : Option Definition) where
  -- so many stored values stand at the front, and are put into a storage
  record RisesFrom (n : ℕ) (last : Option Key) (s : List FlatEntry) (bytes : List ℕ) (new : List FlatEntry) (rest : List ℕ) : Type 0 where
    pub entries : List FlatEntry
    pub put : new ≡ puts s entries
    pub count : length entries ≡ n
    pub front : Front (flat_map (entry_text modules of) entries) bytes rest
    pub are : AllByRecursion (IsEntry modules of) entries
    pub rises : Rises last entries

  rising-parts : (n : ℕ) (last : Option Key) (s : List FlatEntry) (bytes : List ℕ) (new : List FlatEntry) (rest : List ℕ) → AreBytes bytes
      → rising_into (entry_from modules of) n last s bytes ≡ Some (new, rest) → RisesFrom n last s bytes new rest
  rising-parts zero last s bytes new rest ok h =
      let p = some_pair_parts s new bytes rest h in
      record { entries = []; put = sym p.0; count = refl; front = Front-from [] bytes rest ok p.1; are = tt; rises = tt }
  rising-parts (suc n) last s bytes new rest ok h =
      on_bind (entry_from modules of bytes) _ (new, rest) h (λ e e_is h1.
      on_bind (then_some (is_after last e.0.key) e.1) _ (new, rest) h1 (λ left left_is h2.
      let t = then_some-parts (is_after last e.0.key) e.1 left left_is in
      let p = entry-parts modules of bytes e.1 e.0 ok e_is in
      let here : rising_into (entry_from modules of) n (Some e.0.key) (with_entry s e.0) e.1 ≡ Some (new, rest) = subst
      (λ (z : List ℕ). rising_into (entry_from modules of) n (Some e.0.key) (with_entry s e.0) z ≡ Some (new, rest)) (sym t.1) h2 in
      let more = rising-parts n (Some e.0.key) (with_entry s e.0) e.1 new rest p.0.left here in
      record {
        entries = e.0 ∷ more.entries;
        put = more.put;
        count = ap suc more.count;
        front = Front-join (entry_text modules of e.0) (flat_map (entry_text modules of) more.entries) bytes e.1 rest p.0 more.front;
        are = (p.1, more.are);
        rises = (t.0, more.rises);
      }))

  rising-step : (n : ℕ) (last : Option Key) (s : List FlatEntry) (bytes next : List ℕ) (e : FlatEntry) → entry_from modules of bytes ≡ Some (e, next) → is_after last e.key ≡ true
      → rising_into (entry_from modules of) (suc n) last s bytes ≡ rising_into (entry_from modules of) n (Some e.key) (with_entry s e) next
  rising-step n last s bytes next e h up =
      ap (λ o. o >>= λ e. then_some (is_after last e.0.key) e.1 >>= λ rest. rising_into (entry_from modules of) n (Some e.0.key) (with_entry s e.0) rest) h
      ∙ ap (λ b. then_some b next >>= λ rest. rising_into (entry_from modules of) n (Some e.key) (with_entry s e) rest) up

  rising-whole : (last : Option Key) (s : List FlatEntry) (rest : List ℕ) (es : List FlatEntry) → AllByRecursion (IsEntry modules of) es → Rises last es
      → rising_into (entry_from modules of) (length es) last s (flat_map (entry_text modules of) es ++ rest) ≡ Some (puts s es, rest)
  rising-whole last s rest [] are up = refl
  rising-whole last s rest (e ∷ es) are up =
      ap (rising_into (entry_from modules of) (length (e ∷ es)) last s) (append_assoc (entry_text modules of e) (flat_map (entry_text modules of) es) rest)
      ∙ rising-step (length es) last s (entry_text modules of e ++ (flat_map (entry_text modules of) es ++ rest)) (flat_map (entry_text modules of) es ++ rest) e
      (entry-whole modules of (flat_map (entry_text modules of) es ++ rest) e are.0) up.0
      ∙ rising-whole (Some e.key) (with_entry s e) rest es are.1 up.1

  -- ---- after their number

  -- stored values after their number stand at the front, and are put into a storage
  pub record GroupFrom (s : List FlatEntry) (bytes : List ℕ) (new : List FlatEntry) (rest : List ℕ) : Type 0 where
    pub entries : List FlatEntry
    pub put : new ≡ puts s entries
    pub front : Front (counted (entry_text modules of) entries) bytes rest
    pub are : AllByRecursion (IsEntry modules of) entries
    pub rises : Rises None entries

  pub group-parts : (s : List FlatEntry) (bytes : List ℕ) (new : List FlatEntry) (rest : List ℕ) → AreBytes bytes → group_into (entry_from modules of) s bytes ≡ Some (new, rest)
      → GroupFrom s bytes new rest
  group-parts s bytes new rest ok h =
      on_bind (number_from 18446744073709551615 bytes) _ (new, rest) h (λ n n_is h1.
      let p = number-front 18446744073709551615 n.0 bytes n.1 (omega arith) ok n_is in
      let g = rising-parts n.0 None s n.1 new rest p.0.left h1 in
      let number : Front (uleb (length g.entries)) bytes n.1 = subst (λ (k : ℕ). Front (uleb k) bytes n.1) (sym g.count) p.0 in
      record {
        entries = g.entries;
        put = g.put;
        front = Front-join (uleb (length g.entries)) (flat_map (entry_text modules of) g.entries) bytes n.1 rest number g.front;
        are = g.are;
        rises = g.rises;
      })

  pub group-whole : (s : List FlatEntry) (rest : List ℕ) (es : List FlatEntry) → AllByRecursion (IsEntry modules of) es → Rises None es → length es < 2 ^ 64
      → group_into (entry_from modules of) s (counted (entry_text modules of) es ++ rest) ≡ Some (puts s es, rest)
  group-whole s rest es are up few =
      rw (
        append_assoc (uleb (length es)) (flat_map (entry_text modules of) es) rest,
        number-whole 18446744073709551615 (length es) (flat_map (entry_text modules of) es ++ rest) (omega arith)
            (omega arith),
      )
      (rising-whole None s rest es are up)

-- ---- struct by struct

-- an entry is under its own struct
pub is-own : (d : Definition) (e : FlatEntry) → struct_under e.key ≡ d → is_of d e ≡ true
is-own d e h = subst (λ (z : Definition). is_of z e ≡ true) h (and_from _ _ (eq-eqb e.key.place e.key.place refl) (eq-eqb e.key.index e.key.index refl))

-- and under no other
pub own-is : (d : Definition) (e : FlatEntry) → is_of d e ≡ true → struct_under e.key ≡ d
own-is d e h =
    let p = and_parts (e.key.place == d.place) (e.key.index == d.index) h in
    λ i. record { place = eqb-true e.key.place d.place p.0 i; index = eqb-true e.key.index d.index p.1 i }

pub is-other : (d : Definition) (e : FlatEntry) → (struct_under e.key ≡ d → ⊥) → is_of d e ≡ false
is-other d e h = grind (arith, own-is d e)

under-own : (modules : List Module) (d : Definition) (es : List FlatEntry) → AllByRecursion (IsEntry modules (Some d)) es → under d es ≡ es
under-own modules d [] are = refl
under-own modules d (e ∷ es) are = rw (is-own d e are.0.known) (ap (λ z. e ∷ z) (under-own modules d es are.1))

under-other : (modules : List Module) (d own : Definition) (es : List FlatEntry) → (own ≡ d → ⊥) → AllByRecursion (IsEntry modules (Some own)) es → under d es ≡ []
under-other modules d own [] apart are = refl
under-other modules d own (e ∷ es) apart are = rw (is-other d e (λ h. apart (sym are.0.known ∙ h))) (under-other modules d own es apart are.1)

-- a struct is among some
abbrev pub Among : Definition → List Definition → Type 0
Among d [] = ⊥
Among d (e ∷ es) = (d ≡ e) ⊎ Among d es

-- it is none of them
abbrev pub IsApart : Definition → List Definition → Type 0
IsApart d ds = AllByRecursion (λ e. d ≡ e → ⊥) ds

-- none stands twice
abbrev pub Distinct : List Definition → Type 0
Distinct [] = Unit {0}
Distinct (d ∷ ds) = IsApart d ds × Distinct ds

pub apart-among : (d e : Definition) (ds : List Definition) → IsApart d ds → Among e ds → d ≡ e → ⊥
apart-among d e [] apart among same = among
apart-among d e (f ∷ ds) apart (inl h) same = apart.0 (same ∙ h)
apart-among d e (f ∷ ds) apart (inr h) same = apart-among d e ds apart.1 h same

-- entries of other structs
under-none : (d : Definition) (ds : List Definition) (es : List FlatEntry) → IsApart d ds → AllByRecursion (λ e. Among (struct_under e.key) ds) es → under d es ≡ []
under-none d ds [] apart all = refl
under-none d ds (e ∷ es) apart all = rw (is-other d e (λ h. apart-among d (struct_under e.key) ds apart all.0 (sym h))) (under-none d ds es apart all.1)

-- an entry is one of its own struct
pub own-entry : (modules : List Module) (of : Option Definition) (e : FlatEntry) → IsEntry modules of e → IsEntry modules (Some (struct_under e.key)) e
own-entry modules of e is = record { kinds = is.kinds; kinds_are = is.kinds_are; leaves = is.leaves; address = is.address; known = refl }

puts-append : (s xs ys : List FlatEntry) → puts (puts s xs) ys ≡ puts s (xs ++ ys)
puts-append s [] ys = refl
puts-append s (x ∷ xs) ys = puts-append (with_entry s x) xs ys

-- a function of each, where two are one at each
flat_map-where : (f g : Definition → List ℕ) (ds : List Definition) → AllByRecursion (λ d. f d ≡ g d) ds → flat_map f ds ≡ flat_map g ds
flat_map-where f g [] all = refl
flat_map-where f g (d ∷ ds) all = ap₂ (λ (x y : List ℕ). x ++ y) all.0 (flat_map-where f g ds all.1)

module _ (modules : List Module) where
  -- the text of what is stored of a struct
  abbrev pub group_text : List FlatEntry → Definition → List ℕ
  group_text es d = counted (entry_text modules (Some d)) (under d es)

  -- what is stored of these structs stands at the front, struct by struct, and is put into a storage
  pub record GroupsFrom (ds : List Definition) (s : List FlatEntry) (bytes : List ℕ) (new : List FlatEntry) (rest : List ℕ) : Type 0 where
    pub entries : List FlatEntry
    pub put : new ≡ puts s entries
    pub front : Front (flat_map (group_text entries) ds) bytes rest
    pub ascend : (d : Definition) → Ascends (under d entries)
    pub are : (d : Definition) → AllByRecursion (IsEntry modules (Some d)) (under d entries)
    pub each : AllByRecursion (λ e. IsEntry modules (Some (struct_under e.key)) e) entries
    pub within : AllByRecursion (λ e. Among (struct_under e.key) ds) entries

  -- the others' texts don't change
  others-text : (d : Definition) (ds : List Definition) (own es : List FlatEntry) → IsApart d ds → AllByRecursion (IsEntry modules (Some d)) own
      → AllByRecursion (λ e. group_text es e ≡ group_text (own ++ es) e) ds
  others-text d [] own es apart are = tt
  others-text d (e ∷ ds) own es apart are =
      let none : under e (own ++ es) ≡ under e es = filter-append (is_of e) own es ∙ ap (λ z. z ++ under e es) (under-other modules e d own apart.0 are) in
      (ap (counted (entry_text modules (Some e))) (sym none), others-text d ds own es apart.1 are)

  pub groups-parts : (ds : List Definition) (s : List FlatEntry) (bytes : List ℕ) (new : List FlatEntry) (rest : List ℕ) → Distinct ds → AreBytes bytes
      → groups_into modules ds s bytes ≡ Some (new, rest) → GroupsFrom ds s bytes new rest
  groups-parts [] s bytes new rest distinct ok h =
      let p = some_pair_parts s new bytes rest h in
      record { entries = []; put = sym p.0; front = Front-from [] bytes rest ok p.1; ascend = λ d. tt; are = λ d. tt; each = tt; within = tt }
  groups-parts (d ∷ ds) s bytes new rest distinct ok h =
      on_bind (group_into (entry_from modules (Some d)) s bytes) _ (new, rest) h (λ r r_is h1.
      let g = group-parts modules (Some d) s bytes r.0 r.1 ok r_is in
      let more = groups-parts ds r.0 r.1 new rest distinct.1 g.front.left h1 in
      let own : under d (g.entries ++ more.entries) ≡ g.entries =
      filter-append (is_of d) g.entries more.entries ∙ ap₂ (λ (x y : List FlatEntry). x ++ y) (under-own modules d g.entries g.are) (under-none d ds more.entries distinct.0 more.within)
      ∙ append-nil g.entries in
      let first : Front (group_text (g.entries ++ more.entries) d) bytes r.1 = subst (λ (z : List FlatEntry). Front (counted (entry_text modules (Some d)) z) bytes r.1) (sym own) g.front in
      let others : Front (flat_map (group_text (g.entries ++ more.entries)) ds) r.1 rest =
      subst (λ (z : List ℕ). Front z r.1 rest) (flat_map-where (group_text more.entries) (group_text (g.entries ++ more.entries)) ds (others-text d ds g.entries more.entries distinct.0 g.are))
      more.front in
      record {
        entries = g.entries ++ more.entries;
        put = more.put ∙ ap (λ z. puts z more.entries) g.put ∙ puts-append s g.entries more.entries;
        front = Front-join (group_text (g.entries ++ more.entries) d) (flat_map (group_text (g.entries ++ more.entries)) ds) bytes r.1 rest first others;
        ascend = λ e. by_struct (λ _ z. Ascends z) d e g.entries more.entries own (rises-ascends g.entries g.rises) (more.ascend e) g.are;
        are = λ e. by_struct (λ d z. AllByRecursion (IsEntry modules (Some d)) z) d e g.entries more.entries own g.are (more.are e) g.are;
        each = all-append (λ e. IsEntry modules (Some (struct_under e.key)) e) g.entries more.entries
            (all-weaker (IsEntry modules (Some d)) (λ e. IsEntry modules (Some (struct_under e.key)) e) (own-entry modules (Some d)) g.entries g.are) more.each;
        within = all-append (λ e. Among (struct_under e.key) (d ∷ ds)) g.entries more.entries
            (all-weaker (IsEntry modules (Some d)) (λ e. Among (struct_under e.key) (d ∷ ds)) (λ e is. inl is.known) g.entries g.are)
            (all-weaker (λ e. Among (struct_under e.key) ds) (λ e. Among (struct_under e.key) (d ∷ ds)) (λ e among. inr among) more.entries more.within);
      })
    where
      same_or : (d e : Definition) → (d ≡ e) ⊎ (d ≡ e → ⊥)
      same_or d e = elim (cases_eq d.place e.place) [
        | inl place ↦ elim (cases_eq d.index e.index) [ inl index ↦ inl (λ i. record { place = place i; index = index i }) | inr far ↦ inr (λ h. far (ap (λ (z : Definition). z.index) h)) ]
        | inr far ↦ inr (λ h. far (ap (λ (z : Definition). z.place) h))
      ]

      by_struct : (P : Definition → List FlatEntry → Type 0) (d e : Definition) (own more : List FlatEntry) → under d (own ++ more) ≡ own → P d own → P e (under e more)
          → AllByRecursion (IsEntry modules (Some d)) own → P e (under e (own ++ more))
      by_struct P d e own more is h g are = elim (same_or d e) [
        | inl same ↦ subst (λ (z : Definition). P z (under z (own ++ more))) same (subst (P d) (sym is) h)
        | inr apart ↦ subst (P e) (sym (filter-append (is_of e) own more ∙ ap (λ z. z ++ under e more) (under-other modules e d own apart are))) g
      ]

  pub groups-whole : (ds : List Definition) (s : List FlatEntry) (rest : List ℕ) (es : List FlatEntry) → Ascends es → ((d : Definition) → AllByRecursion (IsEntry modules (Some d)) (under d es))
      → ((d : Definition) → length (under d es) < 2 ^ 64) → groups_into modules ds s (flat_map (group_text es) ds ++ rest) ≡ Some (puts s (flat_map (λ d. under d es) ds), rest)
  groups-whole [] s rest es up are few = refl
  groups-whole (d ∷ ds) s rest es up are few =
      rw (
        append_assoc (group_text es d) (flat_map (group_text es) ds) rest,
        group-whole modules (Some d) s (flat_map (group_text es) ds ++ rest) (under d es) (are d)
            (ascends-rises (under d es) (Ascends-under d es up)) (few d),
      )
      (groups-whole ds (puts s (under d es)) rest es up are few ∙ ap (λ z. Some (z, rest)) (puts-append s (under d es) (flat_map (λ d. under d es) ds)))
