-- The modules of a scope are found by name and by place.
use Rattle.mv_linker.proofs.Common.{[], ℕ, ◌++◌, ◌+◌, ◌<◌, ◌==◌, ◌∙◌, ◌∷◌, ◌≡◌, ◌≤◌, Bool, List, Module, ModuleName, New, None, Option, PublishedModule, Some, all_named, and_from, length-map}
use Rattle.mv_linker.proofs.Common.{ap, arith, cases_Bool, cases_cond, cond, false, find_index, first_so, found_among, have_one_name, inl, inr, is_module, is_some, length, map-append}
use Rattle.mv_linker.proofs.Common.{map-map, module_place, nat_tests, offered, option_map, option_map_or, own_name, place_for, places_in, published_of, published_one, refl}
use Rattle.mv_linker.proofs.Common.{second_so, slice_get, suc, sym, tables_in, take, true, unwrap_or, with_module, with_modules, with_table, with_tables, zero}
use Rattle.mv_linker.proofs.Lemmas.{have_one_name-from, have_one_name-is, is_module-is, one_test, element_at}

-- the last of a bundle at this place, or else what was found before
abbrev pub newest_at : ℕ → List Module → List ℕ → Option Module → Option Module
newest_at place [] places before = before
newest_at place (n ∷ ns) [] before = before
newest_at place (n ∷ ns) (p ∷ places) before = newest_at place ns places (cond (p == place) (Some n) before)

-- ---- the tables of a store with a bundle

one_table : (ps : List PublishedModule) (q : PublishedModule) → tables_in (with_module ps q) ≡ with_table (tables_in ps) q.tables
one_table [] q = refl
one_table (p ∷ ps) q = let e = one_table ps q in grind (arith, e)

pub all_tables : (ps qs : List PublishedModule) → tables_in (with_modules ps qs) ≡ with_tables (tables_in ps) (tables_in qs)
all_tables ps [] = refl
all_tables ps (q ∷ qs) = all_tables (with_module ps q) qs ∙ ap (λ l. with_tables l (tables_in qs)) (one_table ps q)

pub offered-tables : (news : List New) → tables_in (published_of news) ≡ offered news
offered-tables news = map-map (λ (p : PublishedModule). p.tables) published_one news

-- the tables of a store with a bundle are those of the scope
pub scope-tables : (ps : List PublishedModule) (news : List New) → tables_in (with_modules ps (published_of news)) ≡ with_tables (tables_in ps) (offered news)
scope-tables ps news = all_tables ps (published_of news) ∙ ap (with_tables (tables_in ps)) (offered-tables news)

-- ---- by name

-- where a module is found among one more, by the tests of the first of them
found_step : (same new first : Bool) (p q r : Option ℕ) (k : ℕ) → (same ≡ true → new ≡ first) → (same ≡ false → new ≡ true → first ≡ true → ⊥) → r ≡ cond new (Some (unwrap_or p k)) q
    → cond same (cond new (Some 0) (option_map suc q)) (cond first (Some 0) (option_map suc r))
    ≡ cond new (Some (unwrap_or (cond same (Some 0) (option_map suc p)) (suc k))) (cond first (Some 0) (option_map suc q))
found_step same new first p q r k agree clash e = grind arith

-- one more module is found at its place, and the others where they were
pub find-with_table : (ms : List Module) (n : Module) (own : ModuleName) (name : ModuleName) → own_name n ≡ Some own
    → module_place (with_table ms n) name ≡ cond (is_module name n) (Some (place_for ms n)) (module_place ms name)
find-with_table [] n own name named = refl
find-with_table (m ∷ ms) n own name named =
    split (have_one_name n m) (with_table ms n)
    ∙ found_step (have_one_name n m) (is_module name n) (is_module name m) (find_index (have_one_name n) ms) (module_place ms name) (module_place (with_table ms n) name) (length ms) agree clash
    (find-with_table ms n own name named)
  where
    split : (b : Bool) (rest : List Module) → module_place (cond b (n ∷ ms) (m ∷ rest)) name ≡ cond b (module_place (n ∷ ms) name) (module_place (m ∷ rest) name)
    split true rest = refl
    split false rest = refl

    agree : have_one_name n m ≡ true → is_module name n ≡ is_module name m
    agree h = let own = have_one_name-is n m h in one_test n m (own.1 ∙ sym own.2) name

    clash : have_one_name n m ≡ false → is_module name n ≡ true → is_module name m ≡ true → ⊥
    clash h p q = let one : have_one_name n m ≡ true = have_one_name-from n m name (is_module-is name n p) (is_module-is name m q) in cc

-- a name that is there
pub there : (o : Option ModuleName) → is_some o ≡ true → (own : ModuleName) × (o ≡ Some own)
there None e = absurd cc
there (Some own) e = (own, refl)

-- a name is found among the bundle's, or where it stood before
pub find-with_tables : (ms ns : List Module) (name : ModuleName) → all_named ns ≡ true
    → module_place (with_tables ms ns) name ≡ found_among name ns (places_in ms ns) (module_place ms name)
find-with_tables ms [] name named = refl
find-with_tables ms (n ∷ ns) name named =
    let own = there (own_name n) (first_so (is_some (own_name n)) (all_named ns) named) in
    find-with_tables (with_table ms n) ns name (second_so (is_some (own_name n)) (all_named ns) named)
    ∙ ap (found_among name ns (places_in (with_table ms n) ns)) (find-with_table ms n own.0 name own.1)

-- ---- by place

pub get-with_table : (ms : List Module) (n : Module) (k : ℕ) → slice_get (with_table ms n) k ≡ cond (place_for ms n == k) (Some n) (slice_get ms k)
get-with_table [] n zero = refl
get-with_table [] n (suc k) = grind (arith, nat_tests)
get-with_table (m ∷ ms) n zero = grind (arith, nat_tests)
get-with_table (m ∷ ms) n (suc k) = let e = get-with_table ms n k in grind (arith, nat_tests, e)

-- what stands at a place is the last of the bundle there, or what stood there before
pub get-with_tables : (ms ns : List Module) (k : ℕ) → slice_get (with_tables ms ns) k ≡ newest_at k ns (places_in ms ns) (slice_get ms k)
get-with_tables ms [] k = refl
get-with_tables ms (n ∷ ns) k = get-with_tables (with_table ms n) ns k ∙ ap (newest_at k ns (places_in (with_table ms n) ns)) (get-with_table ms n k)

-- something that was found stays found
still-found : (k : ℕ) (ns : List Module) (places : List ℕ) (x : Module) → newest_at k ns places (Some x) ≡ None → ⊥
still-found k [] places x e = cc
still-found k (n ∷ ns) [] x e = cc
still-found k (n ∷ ns) (p ∷ places) x e = still-found k ns places (cond (p == k) n x) (inside (p == k) e)
  where
    inside : (b : Bool) → newest_at k ns places (cond b (Some n) (Some x)) ≡ None → newest_at k ns places (Some (cond b n x)) ≡ None
    inside true e = e
    inside false e = e

-- where none of the bundle stands at a place, what was there before does
none-newer : (k : ℕ) (ns : List Module) (places : List ℕ) (before : Option Module) → newest_at k ns places None ≡ None → newest_at k ns places before ≡ before
none-newer k [] places before e = refl
none-newer k (n ∷ ns) [] before e = refl
none-newer k (n ∷ ns) (p ∷ places) before e = elim (cases_Bool (p == k)) [
  | inl here ↦ absurd (still-found k ns places n (rw here at e))
  | inr other ↦ rw other (none-newer k ns places before (rw other at e))
]

-- and so the module there is the store's
pub kept-there : (ms ns : List Module) (k : ℕ) → newest_at k ns (places_in ms ns) None ≡ None → slice_get (with_tables ms ns) k ≡ slice_get ms k
kept-there ms ns k none = get-with_tables ms ns k ∙ none-newer k ns (places_in ms ns) (slice_get ms k) none

-- ---- one more module of a bundle

pub tables-push : (ms ns : List Module) (n : Module) → with_tables ms (ns ++ n ∷ []) ≡ with_table (with_tables ms ns) n
tables-push ms [] n = refl
tables-push ms (x ∷ ns) n = tables-push (with_table ms x) ns n

pub places-push : (ms ns : List Module) (n : Module) → places_in ms (ns ++ n ∷ []) ≡ places_in ms ns ++ place_for (with_tables ms ns) n ∷ []
places-push ms [] n = refl
places-push ms (x ∷ ns) n = ap (λ l. place_for ms x ∷ l) (places-push (with_table ms x) ns n)

pub named-push : (ns : List Module) (n : Module) → all_named ns ≡ true → is_some (own_name n) ≡ true → all_named (ns ++ n ∷ []) ≡ true
named-push [] n h e = and_from (is_some (own_name n)) true e refl
named-push (x ∷ ns) n h e =
    and_from (is_some (own_name x)) (all_named (ns ++ n ∷ [])) (first_so (is_some (own_name x)) (all_named ns) h)
    (named-push ns n (second_so (is_some (own_name x)) (all_named ns) h) e)

pub offered-push : (news : List New) (n : New) → offered (news ++ n ∷ []) ≡ offered news ++ n.module ∷ []
offered-push news n = map-append (λ (x : New). x.module) news (n ∷ [])

-- how many modules there are then
pub length-with_table : (ms : List Module) (n : Module) → length (with_table ms n) ≡ cond (place_for ms n == length ms) (length ms + 1) (length ms)
length-with_table [] n = refl
length-with_table (m ∷ ms) n = let e = length-with_table ms n in grind (arith, nat_tests, e)

-- the place for a module whose name is known
pub place-for : (ms : List Module) (n : Module) (own : ModuleName) → own_name n ≡ Some own → place_for ms n ≡ unwrap_or (module_place ms own) (length ms)
place-for ms n own e = ap (λ o. unwrap_or (find_index (λ m. option_map_or (λ name. is_module name m) o false) ms) (length ms)) e

-- ---- what there is below a place

pub within_tables : (ps : List PublishedModule) (k : ℕ) (m : Module) → slice_get (tables_in ps) k ≡ Some m → k < length ps
within_tables [] k m e = absurd cc
within_tables (p ∷ ps) zero m e = omega arith
within_tables (p ∷ ps) (suc k) m e = omega (arith, within_tables ps k m e)

-- where none of the bundle stands, the store has a module
pub kept-below : (ps : List PublishedModule) (ns : List Module) (k : ℕ) → newest_at k ns (places_in (tables_in ps) ns) None ≡ None → k < length (with_tables (tables_in ps) ns) → k < length ps
kept-below ps ns k none h = let x = element_at (with_tables (tables_in ps) ns) k h in within_tables ps k x.0 (sym (kept-there (tables_in ps) ns k none) ∙ x.1)

-- ---- the places of the modules of a bundle that were looked at

pub record PlacesSoFar (old : List Module) (news : List New) (places : List ℕ) (count i : ℕ) : Type 0 where
  pub placed : places ≡ places_in old (offered (take i news))
  pub named : all_named (offered (take i news)) ≡ true
  pub counted : count ≡ length (with_tables old (offered (take i news)))
  pub small : count ≤ length old + i

pub no-places : (old : List Module) (news : List New) (places : List ℕ) (count : ℕ) → places ≡ [] → count ≡ length old → PlacesSoFar old news places count 0
no-places old news places count e f = record { placed = e; named = refl; counted = f; small = omega (arith, f) }

pub more-places : (old : List Module) (news : List New) (places more : List ℕ) (count next place i : ℕ) (n : New) → PlacesSoFar old news places count i → take (i + 1) news ≡ take i news ++ n ∷ []
    → more ≡ places ++ place ∷ [] → place ≡ place_for (with_tables old (offered (take i news))) n.module → is_some (own_name n.module) ≡ true → next ≡ cond (place == count) (count + 1) count
    → PlacesSoFar old news more next (i + 1)
more-places old news places more count next place i n s taken pushed at named counts =
    let all : offered (take (i + 1) news) ≡ offered (take i news) ++ n.module ∷ [] = ap offered taken ∙ offered-push (take i news) n in
    record {
      placed = pushed ∙ ap (λ l. l ++ place ∷ []) s.placed ∙ ap (λ p. places_in old (offered (take i news)) ++ p ∷ []) at ∙ sym (places-push old (offered (take i news)) n.module) ∙ sym (ap (places_in old) all);
      named = ap all_named all ∙ named-push (offered (take i news)) n.module s.named named;
      counted =
          counts ∙ ap (λ p. cond (p == count) (count + 1) count) at
          ∙ ap (λ c. cond (place_for (with_tables old (offered (take i news))) n.module == c) (c + 1) c) s.counted
          ∙ sym (length-with_table (with_tables old (offered (take i news))) n.module)
          ∙ sym (ap length (ap (with_tables old) all ∙ tables-push old (offered (take i news)) n.module));
      small = elim (cases_cond (place == count) (count + 1) count next counts) [ inl e ↦ omega (arith, e, s.small) | inr e ↦ omega (arith, e, s.small) ];
    }

-- a bundle takes at most as many places as it has modules
pub with_tables-short : (ms ns : List Module) → length (with_tables ms ns) ≤ length ms + length ns
with_tables-short ms [] = omega arith
with_tables-short ms (n ∷ ns) =
    let rest = with_tables-short (with_table ms n) ns in
    elim (cases_cond (place_for ms n == length ms) _ _ _ (length-with_table ms n)) [ inl e ↦ omega (arith, rest, e) | inr e ↦ omega (arith, rest, e) ]

-- a store and a bundle have no more than both together
pub few_modules : (ps : List PublishedModule) (news : List New) → length ps + length news ≤ 65536 → length (with_tables (tables_in ps) (offered news)) ≤ 65536
few_modules ps news few =
    omega (arith, few, with_tables-short (tables_in ps) (offered news), length-map ps (λ (p : PublishedModule). p.tables), length-map news (λ (n : New). n.module))
