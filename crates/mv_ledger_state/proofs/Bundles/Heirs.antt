-- What stands in a module's place after a bundle: the module itself, or one of its name that may replace it. Its structs stay.
use Rattle.mv_ledger_state.proofs.Common.{[], ◌++◌, ◌+◌, ◌∙◌, ◌∷◌, ◌≡◌, ◌⊎◌, Bool, List, Option, Some, ap, append-nil, ap₂, arith, false, inl, inr, map, refl, subst, suc, sym, true, zero, ℕ}
use Rattle.mv_ledger_state.proofs.Common.{and_parts, cond_both, same_Some, first_so, second_so, AllByRecursion, enumerate_from, filter, list_all, option_map_or, ◌&&◌, ◌||◌, fold, not}
use Rattle.mv_ledger_state.proofs.Common.{slice_get, bytes_eq, same_abilities, Module, StructDefinition, name_at, name_of_struct, own_name, struct_abilities, definition_of, have_one_name, is_module}
use Rattle.mv_ledger_state.proofs.Common.{is_struct, module_named, module_place, ModuleName, StructName, same_module, find_index, PublishedModule, has_name_of, with_module, with_modules, mapped-at}
use Rattle.mv_ledger_state.proofs.Common.{is_scarce_struct, Field, Abilities, on_bind, all_at, then_found, same_abilities-is, is_module-is, same_module-same, IsStore, are_compatible, tables_in}
use Rattle.mv_ledger_state.proofs.Common.{function_stays, may_replace, same_fields, same_struct_definition, structs_stay, own_of_store, IsOwn, AreScarce, scarce_indices, Tally}
use Rattle.std.proofs.lemmas.Slice.Eq.{bytes_eq-Decides}
use Rattle.mv_ledger_state.proofs.Bundles.Places.{one_own}
use Rattle.mv_ledger_state.proofs.Bundles.Places.{had}
use Rattle.mv_bound_rules.proofs.Found.{passing, found_passes}
use Rattle.mv_linker.proofs.Joining.Upgraded.{stays-at}
use Rattle.std.proofs.lemmas.Option.{option_and_then_some}

-- the module itself, or one of its name that may replace it
abbrev pub IsHeir : Module → Module → Type 0
IsHeir m n = (n ≡ m) ⊎ ((own_name m ≡ own_name n) × (may_replace m n ≡ true))

-- each old place has an heir
abbrev pub Inherits : List Module → List Module → Type 0
Inherits old new = (place : ℕ) (m : Module) → slice_get old place ≡ Some m → (n : Module) × (slice_get new place ≡ Some n) × IsHeir m n

-- a module stands at the place of another: itself, or a new one of its name
abbrev TakesPlace : PublishedModule → PublishedModule → ℕ → List PublishedModule → Type 0
TakesPlace new p place ps = (q : PublishedModule) × (slice_get ps place ≡ Some q) × ((q ≡ p) ⊎ ((q ≡ new) × (has_name_of new.tables p ≡ true)))

-- one more module takes the place of the one of its name, or leaves it
placed_with : (ps : List PublishedModule) (new p : PublishedModule) (place : ℕ) → slice_get ps place ≡ Some p → TakesPlace new p place (with_module ps new)
placed_with [] new p place e = absurd cc
placed_with (x ∷ xs) new p zero e =
    let same : x ≡ p = same_Some x p e in
    cond_both (has_name_of new.tables x) (new ∷ xs) (x ∷ with_module xs new) (TakesPlace new p zero)
    (λ h. (new, refl, inr (refl, subst (λ (y : PublishedModule). has_name_of new.tables y ≡ true) same h))) (λ h. (x, refl, inl same))
placed_with (x ∷ xs) new p (suc place) e =
    cond_both (has_name_of new.tables x) (new ∷ xs) (x ∷ with_module xs new) (TakesPlace new p (suc place)) (λ h. (p, e, inl refl)) (λ h. placed_with xs new p place e)

-- a bundle has a module only for what it may replace
abbrev MayFollow : Module → PublishedModule → Type 0
MayFollow m n = have_one_name m n.tables ≡ true → may_replace m n.tables ≡ true

heir_own : (m n : Module) → IsHeir m n → own_name m ≡ own_name n
heir_own m n (inl e) = ap own_name (sym e)
heir_own m n (inr h) = h.0

joined_place : (m : Module) (bundle ps : List PublishedModule) (place : ℕ) (q : PublishedModule) → AllByRecursion (MayFollow m) bundle → slice_get ps place ≡ Some q → IsHeir m q.tables →
    (r : PublishedModule) × (slice_get (fold with_module ps bundle) place ≡ Some r) × IsHeir m r.tables
joined_place m [] ps place q offers at heir = (q, at, heir)
joined_place m (n ∷ bundle) ps place q offers at heir =
    let next = placed_with ps n q place at in
    joined_place m bundle (with_module ps n) place next.0 offers.1 next.1 (goes next.0 next.2)
  where
    goes : (r : PublishedModule) → (r ≡ q) ⊎ ((r ≡ n) × (has_name_of n.tables q ≡ true)) → IsHeir m r.tables
    goes r (inl same) = subst (λ (x : PublishedModule). IsHeir m x.tables) (sym same) heir
    goes r (inr (same, named)) =
        let owns : own_name m ≡ own_name n.tables = heir_own m q.tables heir ∙ sym (one_own n.tables q.tables named) in
        let self : have_one_name n.tables n.tables ≡ true = has_itself n.tables q.tables named in
        let one : have_one_name m n.tables ≡ true = subst (λ (x : Option ModuleName). option_map_or (λ name. is_module name n.tables) x false ≡ true) (sym owns) self in
        subst (λ (x : PublishedModule). IsHeir m x.tables) (sym same) (inr (owns, offers.0 one))
      where
        has_itself : (k o : Module) → have_one_name k o ≡ true → have_one_name k k ≡ true
        has_itself k o h =
            let t = passing (λ name. is_module name o) (own_name k) h in
            subst (λ (x : Option ModuleName). option_map_or (λ name. option_map_or (λ own. same_module own name) x false) x false ≡ true) (sym t.1) (same_module-same t.0)

offered : (m : Module) (bundle : List PublishedModule) → list_all (λ n. not (have_one_name m n) || may_replace m n) (tables_in bundle) ≡ true → AllByRecursion (MayFollow m) bundle
offered m [] h = tt
offered m (n ∷ bundle) h =
    let both = and_parts (not (have_one_name m n.tables) || may_replace m n.tables) (list_all (λ n. not (have_one_name m n) || may_replace m n) (tables_in bundle)) h in
    (λ one. grind (arith, both.0), offered m bundle both.1)

get-mapped : {A B : Type 0} (f : A → B) (xs : List A) (i : ℕ) (x : A) → slice_get xs i ≡ Some x → slice_get (map f xs) i ≡ Some (f x)
get-mapped f [] i x e = absurd cc
get-mapped f (y ∷ ys) zero x e = ap (λ (z : _). Some (f z)) (same_Some y x e)
get-mapped f (y ∷ ys) (suc i) x e = get-mapped f ys i x e

-- each old place has an heir after a bundle that may join
pub inherited : (old bundle : List PublishedModule) → are_compatible (tables_in old) (tables_in bundle) ≡ true → Inherits (tables_in old) (tables_in (with_modules old bundle))
inherited old bundle compatible place m m_at =
    let p = mapped-at (λ (p : PublishedModule). p.tables) old place m m_at in
    let may = all_at (λ m. list_all (λ n. not (have_one_name m n) || may_replace m n) (tables_in bundle)) (tables_in old) place m compatible m_at in
    let r = joined_place m bundle old place p.0 (offered m bundle may) p.1 (inl p.2) in
    (r.0.tables, get-mapped (λ (p : PublishedModule). p.tables) (with_modules old bundle) place r.0 r.1, r.2)

-- ---- definitions stay

module _ (m : Module) (d : StructDefinition) (n : Module) (e : StructDefinition) (same : same_struct_definition m d n e ≡ true) where
  abbrev names_alike : Bool
  names_alike = option_map_or (λ (x : StructName). option_map_or (λ (y : StructName). bytes_eq x.name y.name) (name_of_struct n e) false) (name_of_struct m d) false

  abbrev abilities_alike : Bool
  abilities_alike = option_map_or (λ (x : Abilities). option_map_or (same_abilities x) (struct_abilities n e) false) (struct_abilities m d) false

  front : (names_alike && abilities_alike) ≡ true
  front = first_so (names_alike && abilities_alike) (same_fields m d.fields n e.fields) same

  pub abilities-same : struct_abilities m d ≡ struct_abilities n e
  abilities-same =
      let c = passing (λ (x : Abilities). option_map_or (same_abilities x) (struct_abilities n e) false) (struct_abilities m d) (second_so names_alike abilities_alike front) in
      let f = passing (same_abilities c.0) (struct_abilities n e) c.2 in
      c.1 ∙ ap (λ (x : Abilities). Some x) (same_abilities-is c.0 f.0 f.2) ∙ sym f.1

  pub names-same : (a b : StructName) → name_of_struct m d ≡ Some a → name_of_struct n e ≡ Some b → a.name ≡ b.name
  names-same a b a_is b_is =
      let x = passing (λ (x : StructName). option_map_or (λ (y : StructName). bytes_eq x.name y.name) (name_of_struct n e) false) (name_of_struct m d) (first_so names_alike abilities_alike front) in
      let y = passing (λ (y : StructName). bytes_eq (x.0).name y.name) (name_of_struct n e) x.2 in
      ap (λ (z : StructName). z.name) (same_Some a x.0 (sym a_is ∙ x.1)) ∙ (bytes_eq-Decides (x.0).name (y.0).name).0 y.2 ∙ ap (λ (z : StructName). z.name) (same_Some y.0 b (sym y.1 ∙ b_is))

  pub fields-same : same_fields m d.fields n e.fields ≡ true
  fields-same = second_so (names_alike && abilities_alike) (same_fields m d.fields n e.fields) same

-- a struct's name has its module's
home-of : (modules : List Module) (name : StructName) (m : Module) (fields : List Field) → definition_of modules name ≡ Some (m, fields) → own_name m ≡ Some name.home
home-of modules name m fields e =
    let whole : Module × List Field = (m, fields) in
    on_bind (module_named modules name.home) _ whole e (λ x x_is e1.
    on_bind (find_index (is_struct x name) x.structs) _ whole e1 (λ i i_is e2.
    on_bind (slice_get x.structs i) _ whole e2 (λ d d_is e3.
    let made : Module × List Field = (x, d.fields) in
    let same : x ≡ m = ap (λ (p : Module × List Field). p.0) (same_Some made whole e3) in
    option_and_then_some (slice_get modules) (module_place modules name.home) x x_is (λ place place_is at.
    subst (λ (y : Module). own_name y ≡ Some name.home) same (is_module-is name.home x (found_passes (is_module name.home) modules place x place_is at))))))

-- a definition of an heir, which is as it was
pub record Stayed (m : Module) (d : StructDefinition) (name : StructName) (n : Module) (i : ℕ) : Type 0 where
  pub definition : StructDefinition
  pub is_there : slice_get n.structs i ≡ Some definition
  pub is_named : name_of_struct n definition ≡ Some name
  pub abilities : struct_abilities m d ≡ struct_abilities n definition
  pub fields : ((n ≡ m) × (definition ≡ d)) ⊎ (same_fields m d.fields n definition.fields ≡ true)

module _ (old new : List PublishedModule) (old_store : IsStore old) (new_store : IsStore new) (inherits : Inherits (tables_in old) (tables_in new)) where
  pub stayed : (place i : ℕ) (m n : Module) (d : StructDefinition) (name : StructName) → slice_get (tables_in old) place ≡ Some m → slice_get (tables_in new) place ≡ Some n → IsHeir m n
      → slice_get m.structs i ≡ Some d → name_of_struct m d ≡ Some name → Stayed m d name n i
  stayed place i m n d name m_at n_at (inl e) at named =
      subst (λ (x : Module). Stayed m d name x i) (sym e) (record { definition = d; is_there = at; is_named = named; abilities = refl; fields = inl (refl, refl) })
  stayed place i m n d name m_at n_at (inr h) at named =
      let found = stays-at m n m.structs n.structs i d (first_so (structs_stay m m.structs n n.structs) (list_all (function_stays m n) m.functions) h.1) at in
      let e : StructDefinition = found.0 in
      let mine : IsOwn (tables_in old) m i d = own_of_store old place m old_store m_at i d at in
      let theirs : IsOwn (tables_in new) n i e = own_of_store new place n new_store n_at i e found.1 in
      let same : mine.name ≡ name = same_Some mine.name name (sym mine.named ∙ named) in
      let idents : theirs.name.name ≡ name.name = sym (names-same m d n e found.2 name theirs.name named theirs.named) in
      let new_home : own_name n ≡ Some theirs.name.home = home-of (tables_in new) theirs.name n e.fields theirs.definition in
      let old_home : own_name m ≡ Some mine.name.home = home-of (tables_in old) mine.name m d.fields mine.definition in
      let homes : theirs.name.home ≡ name.home = same_Some theirs.name.home name.home (sym new_home ∙ sym h.0 ∙ old_home ∙ ap (λ (x : StructName). Some x.home) same) in
      let made : ModuleName → List ℕ → StructName = λ x y. record { home = x; name = y } in
      record {
        definition = e;
        is_there = found.1;
        is_named = theirs.named ∙ ap (λ (x : StructName). Some x) (ap₂ made homes idents);
        abilities = abilities-same m d n e found.2;
        fields = inr (fields-same m d n e found.2);
      }

  -- a struct's name stays at its place and index
  pub name-stays : (place index : ℕ) (name : StructName) → name_at (tables_in old) place index ≡ Some name → name_at (tables_in new) place index ≡ Some name
  name-stays place index name e =
      on_bind (slice_get (tables_in old) place) _ name e (λ m m_at e1.
      on_bind (slice_get m.structs index) _ name e1 (λ d d_at named.
      let n = inherits place m m_at in
      let s = stayed place index m n.0 d name m_at n.1 n.2 d_at named in
      then_found (slice_get (tables_in new) place) _ n.0 (Some name) n.1 (then_found (slice_get (n.0).structs index) _ s.definition (Some name) s.is_there s.is_named)))

-- ---- the structs with neither copy nor drop

-- their indices, from this one on
abbrev pub indices_from : ℕ → Module → List StructDefinition → List ℕ
indices_from k m ds = map (λ p. p.0) (filter (λ p. is_scarce_struct m p.1) (enumerate_from k ds))

-- those of structs that stay come first
indices-stay : (m n : Module) (k : ℕ) (ds es : List StructDefinition) → structs_stay m ds n es ≡ true → (rest : List ℕ) × (indices_from k n es ≡ indices_from k m ds ++ rest)
indices-stay m n k [] es h = (indices_from k n es, refl)
indices-stay m n k (d ∷ ds) [] h = absurd cc
indices-stay m n k (d ∷ ds) (e ∷ es) h =
    let ih = indices-stay m n (k + 1) ds es (second_so (same_struct_definition m d n e) (structs_stay m ds n es) h) in
    let same : is_scarce_struct n e ≡ is_scarce_struct m d =
    ap (λ (o : Option Abilities). option_map_or (λ (a : Abilities). not a.copy && not a.drop) o false)
    (sym (abilities-same m d n e (first_so (same_struct_definition m d n e) (structs_stay m ds n es) h))) in
    (ih.0, grind (arith, same, ih.1))

-- the tallies at a place are a module's, or there are none
had-scarce : (ms : List Module) (tss : List (List Tally)) → AreScarce ms tss → (i : ℕ)
    → ((m : Module) × (slice_get ms i ≡ Some m) × (map (λ (t : Tally). t.index) (had tss i) ≡ scarce_indices m)) ⊎ (had tss i ≡ [])
had-scarce [] [] h i = inr refl
had-scarce (m ∷ ms) (ts ∷ tss) h zero = inl (m, refl, h.0)
had-scarce (m ∷ ms) (ts ∷ tss) h (suc i) = had-scarce ms tss h.1 i
had-scarce _ _ h _ = absurd h

-- the structs of the tallies that stand at a place come first among those of its module
pub had-first : (old new : List Module) (tss : List (List Tally)) → AreScarce old tss → Inherits old new → (i : ℕ) (n : Module) → slice_get new i ≡ Some n
    → (rest : List ℕ) × (scarce_indices n ≡ map (λ (t : Tally). t.index) (had tss i) ++ rest)
had-first old new tss scarce inherits i n n_at = by_old (had-scarce old tss scarce i)
  where
    by_heir : (m k : Module) → IsHeir m k → (rest : List ℕ) × (scarce_indices k ≡ scarce_indices m ++ rest)
    by_heir m k (inl e) = ([], ap scarce_indices e ∙ sym (append-nil (scarce_indices m)))
    by_heir m k (inr h) = indices-stay m k 0 m.structs k.structs (first_so (structs_stay m m.structs k k.structs) (list_all (function_stays m k) m.functions) h.1)

    by_old : ((m : Module) × (slice_get old i ≡ Some m) × (map (λ (t : Tally). t.index) (had tss i) ≡ scarce_indices m)) ⊎ (had tss i ≡ [])
        → (rest : List ℕ) × (scarce_indices n ≡ map (λ (t : Tally). t.index) (had tss i) ++ rest)
    by_old (inr none) = (scarce_indices n, ap (λ (ts : List Tally). map (λ (t : Tally). t.index) ts ++ scarce_indices n) (sym none))
    by_old (inl (m, m_at, is)) =
        let k = inherits i m m_at in
        let same : k.0 ≡ n = same_Some k.0 n (sym k.1 ∙ n_at) in
        let r = by_heir m n (subst (λ (x : Module). IsHeir m x) same k.2) in
        (r.0, r.1 ∙ ap (λ (xs : List ℕ). xs ++ r.0) (sym is))
