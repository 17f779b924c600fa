-- Where the modules of a bundle stand in the store that it joins, and the tallies of each module then.
use Rattle.mv_ledger_state.proofs.Common.{[], ◌++◌, ◌+◌, ◌<◌, ◌∙◌, ◌∷◌, ◌≡◌, ◌≤◌, Bool, List, None, Option, Some, ap, append-nil, ap₂, arith, cond, drop, false, length, map, refl, subst, suc, sym, true}
use Rattle.mv_ledger_state.proofs.Common.{zero, zero-add, ℕ, nat_tests, drop_all, length-map, All-append, All-map, All-nil, sum_by-cons, first_so, second_so, AllByRecursion, list_any, option_map_or}
use Rattle.mv_ledger_state.proofs.Common.{◌||◌, All, count_by, fold, nat_le, nat_lt, not, option_and_then, slice_get, unwrap_or, Module, own_name, have_one_name, is_module}
use Rattle.mv_ledger_state.proofs.Common.{module_place, ModuleName, same_module, PublishedModule, has_name_of, with_module, with_modules, all_differ, is_module-is, tables_in, with_at, on_found}
use Rattle.mv_ledger_state.proofs.Common.{ArePlacedFor, AreWithin, fresh_tally, place_for, tallies_at, with_placed, ArePlaced, AreScarce, scarce_indices, Placed, Tally}
use Rattle.mv_linker.proofs.Kept.Keyed.{same_module-turns}
use Rattle.std.proofs.lemmas.Bool.{not-true}

-- ---- modules of one name

-- so two modules have one name whichever comes first
pub one_name-turns : (m n : Module) → have_one_name m n ≡ have_one_name n m
one_name-turns m n = step (own_name m) (own_name n)
  where
    step : (a b : Option ModuleName)
        → option_map_or (λ name. option_map_or (λ own. same_module own name) b false) a false ≡ option_map_or (λ name. option_map_or (λ own. same_module own name) a false) b false
    step None None = refl
    step None (Some b) = refl
    step (Some a) None = refl
    step (Some a) (Some b) = same_module-turns b a

-- modules with one name have the same name
pub one_own : (m n : Module) → have_one_name m n ≡ true → own_name m ≡ own_name n
one_own m n h = on_found (λ name. is_module name n) (own_name m) h (λ name is own. is ∙ sym (is_module-is name n own))

-- so that a third has the name of both or of none
pub one_name-same : (k m n : Module) → have_one_name m n ≡ true → have_one_name k m ≡ have_one_name k n
one_name-same k m n h = ap (λ (o : Option ModuleName). option_map_or (λ name. option_map_or (λ own. same_module own name) o false) (own_name k) false) (one_own m n h)

-- the place that a module of this name takes: that of the one of its name, or the next one
abbrev pub spot_of : Option ModuleName → List PublishedModule → ℕ
spot_of name [] = 0
spot_of name (q ∷ qs) = cond (option_map_or (λ own. is_module own q.tables) name false) 0 (suc (spot_of name qs))

-- the place that a module takes
abbrev pub spot : List PublishedModule → Module → ℕ
spot cur m = spot_of (own_name m) cur

-- whether a module of its name is there
abbrev pub is_there : List PublishedModule → Module → Bool
is_there cur m = list_any (have_one_name m) (tables_in cur)

-- a module that isn't there takes the next place
spot-next : (cur : List PublishedModule) (m : Module) → is_there cur m ≡ false → spot cur m ≡ length cur
spot-next [] m e = refl
spot-next (q ∷ qs) m e = grind (arith, spot-next qs m)

-- one that is there takes one of theirs
pub spot-below : (cur : List PublishedModule) (m : Module) → is_there cur m ≡ true → spot cur m < length cur
spot-below [] m e = absurd cc
spot-below (q ∷ qs) m e = grind (arith, spot-below qs m)

-- where the one of a name is
pub found : (name : ModuleName) (old : List PublishedModule) → module_place (tables_in old) name ≡ cond (list_any (is_module name) (tables_in old)) (Some (spot_of (Some name) old)) None
found name [] = refl
found name (q ∷ qs) = grind (arith, found name qs)

-- where the module is whose name a module has
pub place-found : (old : List PublishedModule) (m : Module) → option_and_then (module_place (tables_in old)) (own_name m) ≡ cond (is_there old m) (Some (spot old m)) None
place-found old m = by_name (own_name m)
  where
    nowhere : (ms : List Module) → list_any (λ (n : Module). false) ms ≡ false
    nowhere [] = refl
    nowhere (n ∷ ms) = nowhere ms

    by_name : (o : Option ModuleName) → option_and_then (module_place (tables_in old)) o ≡ cond (list_any (λ n. option_map_or (λ name. is_module name n) o false) (tables_in old))
        (Some (spot_of o old)) None
    by_name None = sym (ap (λ (b : Bool). cond b (Some (spot_of None old)) None) (nowhere (tables_in old)))
    by_name (Some name) = found name old

place_is : (old : List PublishedModule) (next : ℕ) (m : Module) → place_for (tables_in old) next m ≡ cond (is_there old m) (spot old m) next
place_is old next m = grind (arith, place-found old m)

-- ---- one more module leaves where the others stand

there-with : (cur : List PublishedModule) (n : PublishedModule) (m : Module) → have_one_name m n.tables ≡ false → is_there (with_module cur n) m ≡ is_there cur m
there-with [] n m e = ap (λ (b : Bool). b || false) e
there-with (q ∷ qs) n m e = grind (arith, there-with qs n m e, one_name-same m n.tables q.tables)

spot-with : (cur : List PublishedModule) (n : PublishedModule) (m : Module) → is_there cur m ≡ true → spot (with_module cur n) m ≡ spot cur m
spot-with [] n m e = absurd cc
spot-with (q ∷ qs) n m e = grind (arith, spot-with qs n m, one_name-same m n.tables q.tables)

pub length-with : (cur : List PublishedModule) (n : PublishedModule) → length (with_module cur n) ≡ cond (is_there cur n.tables) (length cur) (length cur + 1)
length-with [] n = refl
length-with (q ∷ qs) n = grind (arith, length-with qs n)

-- ---- a bundle, module by module

-- the tallies that stand at a place
abbrev pub had : List (List Tally) → ℕ → List Tally
had tss place = unwrap_or (slice_get tss place) []

-- the modules of a bundle take their places one after the other, each with its tallies
abbrev pub AreSpotted : (ℕ → List Tally) → List PublishedModule → List PublishedModule → List Placed → Type 0
AreSpotted own cur [] [] = Unit {0}
AreSpotted own cur (n ∷ ns) (p ∷ ps) = (p.place ≡ spot cur n.tables) × (p.tallies.items ≡ tallies_at p.place n.tables (own p.place)) × AreSpotted own (with_module cur n) ns ps
AreSpotted _ _ _ _ = ⊥

-- a module has its place among these as among the old ones
abbrev IsLocated : List PublishedModule → List PublishedModule → PublishedModule → Type 0
IsLocated old cur n = (is_there cur n.tables ≡ is_there old n.tables) × (is_there old n.tables ≡ true → spot cur n.tables ≡ spot old n.tables)

located-first : (old ns : List PublishedModule) → AllByRecursion (IsLocated old old) ns
located-first old [] = tt
located-first old (n ∷ ns) = ((refl, λ e. refl), located-first old ns)

located-next : (old cur : List PublishedModule) (n : PublishedModule) (ns : List PublishedModule) → list_any (have_one_name n.tables) (tables_in ns) ≡ false → AllByRecursion (IsLocated old cur) ns
    → AllByRecursion (IsLocated old (with_module cur n)) ns
located-next old cur n [] e h = tt
located-next old cur n (m ∷ ms) e h =
    let apart : have_one_name n.tables m.tables ≡ false = grind arith in
    let rest : list_any (have_one_name n.tables) (tables_in ms) ≡ false = grind arith in
    let other : have_one_name m.tables n.tables ≡ false = one_name-turns m.tables n.tables ∙ apart in
    ((there-with cur n m.tables other ∙ h.0.0, λ there. spot-with cur n m.tables (h.0.0 ∙ there) ∙ h.0.1 there), located-next old cur n ms rest h.1)

module _ (old : List PublishedModule) (tss : List (List Tally)) where
  -- the next place after one more
  next-is : (cur : List PublishedModule) (n : PublishedModule) (next : ℕ) → IsLocated old cur n → next ≡ length cur → cond (is_there old n.tables) next (next + 1) ≡ length (with_module cur n)
  next-is cur n next located is = ap₂ (λ (b : Bool) (k : ℕ). cond b k (k + 1)) (sym located.0) is ∙ sym (length-with cur n)

  -- where a module is placed it has its place
  place-so : (cur : List PublishedModule) (n : PublishedModule) (next : ℕ) → IsLocated old cur n → next ≡ length cur → (b : Bool) → is_there old n.tables ≡ b
      → cond b (spot old n.tables) next ≡ spot cur n.tables
  place-so cur n next located is true e = sym (located.1 e)
  place-so cur n next located is false e = is ∙ sym (spot-next cur n.tables (located.0 ∙ e))

  spotted : (cur bundle : List PublishedModule) (placed : List Placed) (next : ℕ) → all_differ have_one_name (tables_in bundle) ≡ true → AllByRecursion (IsLocated old cur) bundle → next ≡ length cur
      → ArePlacedFor (tables_in old) tss next (tables_in bundle) placed → AreSpotted (had tss) cur bundle placed
  spotted cur [] [] next differ located is for = tt
  spotted cur (n ∷ ns) (p ∷ ps) next differ located is for = (
    for.0 ∙ place_is old next n.tables ∙ place-so cur n next located.0 is (is_there old n.tables) refl,
    for.1,
    spotted (with_module cur n) ns ps (cond (is_there old n.tables) next (next + 1))
        (second_so (not (list_any (have_one_name n.tables) (tables_in ns))) (all_differ have_one_name (tables_in ns)) differ)
        (located-next old cur n ns (not-true (list_any (have_one_name n.tables) (tables_in ns))
        (first_so (not (list_any (have_one_name n.tables) (tables_in ns))) (all_differ have_one_name (tables_in ns)) differ)) located.1)
        (next-is cur n next located.0 is) for.2,
  )
  spotted _ _ _ _ _ _ _ for = for

  joined-place : (there : Bool) (old cur spot next place : ℕ) → (there ≡ true → spot < old) → old ≤ cur → next ≡ cur → place ≡ cond there spot next
      → cond there cur (cur + 1) ≡ cur + cond (nat_le old place) 1 0
  joined-place there old cur spot next place below least is at = grind (arith, nat_tests)

  joined-long : (there : Bool) (old cur new : ℕ) → old ≤ cur → new ≡ cond there cur (cur + 1) → old ≤ new
  joined-long there old cur new least is = grind arith

  -- how many modules there are then
  joined-count : (cur bundle : List PublishedModule) (placed : List Placed) (next : ℕ) → length old ≤ length cur → all_differ have_one_name (tables_in bundle) ≡ true
      → AllByRecursion (IsLocated old cur) bundle → next ≡ length cur
      → ArePlacedFor (tables_in old) tss next (tables_in bundle) placed → length (fold with_module cur bundle) ≡ length cur + count_by (λ (p : Placed). nat_le (length old) p.place) placed
  joined-count cur [] [] next least differ located is for = omega arith
  joined-count cur (n ∷ ns) (p ∷ ps) next least differ located is for =
      let at : p.place ≡ cond (is_there old n.tables) (spot old n.tables) next = for.0 ∙ place_is old next n.tables in
      let grown : length (with_module cur n) ≡ cond (is_there old n.tables) (length cur) (length cur + 1) = length-with cur n ∙ ap (λ (b : Bool). cond b (length cur) (length cur + 1)) located.0.0 in
      let here = joined-place (is_there old n.tables) (length old) (length cur) (spot old n.tables) next p.place (spot-below old n.tables) least is at in
      let long = joined-long (is_there old n.tables) (length old) (length cur) (length (with_module cur n)) least grown in
      let apart : all_differ have_one_name (tables_in ns) ≡ true = second_so (not (list_any (have_one_name n.tables) (tables_in ns))) (all_differ have_one_name (tables_in ns)) differ in
      let none = not-true (list_any (have_one_name n.tables) (tables_in ns)) (first_so (not (list_any (have_one_name n.tables) (tables_in ns))) (all_differ have_one_name (tables_in ns)) differ) in
      let rest = joined-count (with_module cur n) ns ps (cond (is_there old n.tables) next (next + 1)) long apart (located-next old cur n ns none located.1) (next-is cur n next located.0 is) for.2 in
      omega (arith, rest, grown, here, sum_by-cons (λ (p : Placed). cond (nat_le (length old) p.place) 1 0) p ps)
  joined-count _ _ _ _ _ _ _ _ for = absurd for

-- the modules of a bundle whose names differ take their places in order
pub all-spotted : (old bundle : List PublishedModule) (tss : List (List Tally)) (placed : List Placed) → all_differ have_one_name (tables_in bundle) ≡ true
    → ArePlacedFor (tables_in old) tss (length old) (tables_in bundle) placed → AreSpotted (had tss) old bundle placed
all-spotted old bundle tss placed differ for = spotted old tss old bundle placed (length old) differ (located-first old bundle) refl for

pub count-joined : (old bundle : List PublishedModule) (tss : List (List Tally)) (placed : List Placed) → all_differ have_one_name (tables_in bundle) ≡ true
    → ArePlacedFor (tables_in old) tss (length old) (tables_in bundle) placed → length (with_modules old bundle) ≡ length old + count_by (λ (p : Placed). nat_le (length old) p.place) placed
count-joined old bundle tss placed differ for = joined-count old tss old bundle placed (length old) (omega arith) differ (located-first old bundle) refl for

-- ---- tallies

-- the tallies of each module from this place on, after those that it had
abbrev pub EachIs : (ℕ → List Tally) → ℕ → List Module → List (List Tally) → Type 0
EachIs own place [] [] = Unit {0}
EachIs own place (m ∷ ms) (ts ∷ tss) = (ts ≡ tallies_at place m (own place)) × EachIs own (place + 1) ms tss
EachIs _ _ _ _ = ⊥

each-with : (own : ℕ → List Tally) (place : ℕ) (cur : List PublishedModule) (tss : List (List Tally)) (n : PublishedModule) (ts : List Tally)
    → ts ≡ tallies_at (place + spot cur n.tables) n.tables (own (place + spot cur n.tables))
    → EachIs own place (tables_in cur) tss → EachIs own place (tables_in (with_module cur n)) (with_at (spot cur n.tables) ts tss)
each-with own place [] [] n ts is e = let same : place + 0 ≡ place = omega arith in (subst (λ (k : ℕ). ts ≡ tallies_at k n.tables (own k)) same is, tt)
each-with own place (q ∷ qs) (us ∷ uss) n ts is e = by_case (has_name_of n.tables q) (λ here. each-with own (place + 1) qs uss n ts here e.1) is
  where
    by_case : (b : Bool)
        → (ts ≡ tallies_at (place + 1 + spot qs n.tables) n.tables (own (place + 1 + spot qs n.tables)) → EachIs own (place + 1) (tables_in (with_module qs n)) (with_at (spot qs n.tables) ts uss))
        → ts ≡ tallies_at (place + cond b 0 (suc (spot qs n.tables))) n.tables (own (place + cond b 0 (suc (spot qs n.tables))))
        → EachIs own place (tables_in (cond b (n ∷ qs) (q ∷ with_module qs n))) (with_at (cond b 0 (suc (spot qs n.tables))) ts (us ∷ uss))
    by_case true ih is = let same : place + 0 ≡ place = omega arith in (subst (λ (k : ℕ). ts ≡ tallies_at k n.tables (own k)) same is, e.1)
    by_case false ih is =
        let same : place + suc (spot qs n.tables) ≡ place + 1 + spot qs n.tables = omega arith in
        (e.0, ih (subst (λ (k : ℕ). ts ≡ tallies_at k n.tables (own k)) same is))
each-with _ _ _ _ _ _ _ e = absurd e

pub each-joined : (own : ℕ → List Tally) (cur bundle : List PublishedModule) (tss : List (List Tally)) (placed : List Placed) → AreSpotted own cur bundle placed → EachIs own 0 (tables_in cur) tss
    → EachIs own 0 (tables_in (with_modules cur bundle)) (with_placed tss placed)
each-joined own cur [] tss [] s e = e
each-joined own cur (n ∷ ns) tss (p ∷ ps) s e =
    each-joined own (with_module cur n) ns (with_at p.place p.tallies.items tss) ps s.2
    (subst (λ (k : ℕ). EachIs own 0 (tables_in (with_module cur n)) (with_at k p.tallies.items tss)) (sym s.0)
    (each-with own 0 cur tss n p.tallies.items (subst (λ (k : ℕ). p.tallies.items ≡ tallies_at k n.tables (own k)) (s.0 ∙ sym (zero-add (spot cur n.tables))) s.1) e))
each-joined _ _ _ _ _ s _ = absurd s

-- a module with all its tallies gets none
pub each-first : (own : ℕ → List Tally) (place : ℕ) (ms : List Module) (tss : List (List Tally)) → ((i : ℕ) (ts : List Tally) → slice_get tss i ≡ Some ts → own (place + i) ≡ ts) → AreScarce ms tss
    → EachIs own place ms tss
each-first own place [] [] is h = tt
each-first own place (m ∷ ms) (ts ∷ tss) is h =
    let here : own place ≡ ts = (let same : place ≡ place + 0 = omega arith in ap own same ∙ is 0 ts refl) in
    let long : length (scarce_indices m) ≤ length ts = (let e : length ts ≡ length (scarce_indices m) = sym (length-map ts (λ (t : Tally). t.index)) ∙ ap length h.0 in omega (arith, e)) in
    let whole : tallies_at place m ts ≡ ts = ap (λ (xs : List ℕ). ts ++ map (fresh_tally place) xs) (drop_all (length ts) (scarce_indices m) long) ∙ append-nil ts in (
      sym (ap (tallies_at place m) here ∙ whole),
      each-first own (place + 1) ms tss (λ i us e. let same : place + 1 + i ≡ place + suc i = omega arith in ap own same ∙ is (suc i) us e) h.1,
    )
each-first _ _ _ _ _ h = h

-- what stands at a place is found there
pub had-found : (tss : List (List Tally)) (i : ℕ) (ts : List Tally) → slice_get tss i ≡ Some ts → had tss (0 + i) ≡ ts
had-found tss i ts e = ap (had tss) (zero-add i) ∙ ap (λ (o : Option (List Tally)). unwrap_or o []) e

-- the tallies that a module had are of its place
placed-at : (place : ℕ) (tss : List (List Tally)) → ArePlaced place tss → (i : ℕ) → All (λ (t : Tally). t.place ≡ place + i) (had tss i)
placed-at place [] placed i = All-nil (λ (t : Tally). t.place ≡ place + i)
placed-at place (ts ∷ tss) placed zero = let same : place ≡ place + 0 = omega arith in subst (λ (k : ℕ). All (λ (t : Tally). t.place ≡ k) ts) same placed.0
placed-at place (ts ∷ tss) placed (suc i) = let same : place + 1 + i ≡ place + suc i = omega arith in subst (λ (k : ℕ). All (λ (t : Tally). t.place ≡ k) (had tss i)) same
    (placed-at (place + 1) tss placed.1 i)

pub had-at : (tss : List (List Tally)) → ArePlaced 0 tss → (i : ℕ) → All (λ (t : Tally). t.place ≡ i) (had tss i)
had-at tss placed i = subst (λ (k : ℕ). All (λ (t : Tally). t.place ≡ k) (had tss i)) (zero-add i) (placed-at 0 tss placed i)

-- and so are all of them then
pub tallies-placed : (place : ℕ) (m : Module) (ts : List Tally) → All (λ (t : Tally). t.place ≡ place) ts → All (λ (t : Tally). t.place ≡ place) (tallies_at place m ts)
tallies-placed place m ts h = All-append (λ (t : Tally). t.place ≡ place) ts (map (fresh_tally place) (drop (length ts) (scarce_indices m))) h
    (All-map (λ (t : Tally). t.place ≡ place) (fresh_tally place) (drop (length ts) (scarce_indices m)) (λ k d lt. refl))

-- a place among those that are there, or the next one
spot-within : (there : Bool) (place spot long new : ℕ) → (there ≡ true → spot < long) → (there ≡ false → spot ≡ long) → place ≡ spot → new ≡ cond there long (long + 1)
    → (place ≤ long) × (cond (nat_lt place long) long (long + 1) ≡ new)
spot-within there place spot long new below next at is = grind (arith, nat_tests)

pub spotted-within : (own : ℕ → List Tally) (at : (i : ℕ) → All (λ (t : Tally). t.place ≡ i) (own i)) (cur bundle : List PublishedModule) (placed : List Placed) → AreSpotted own cur bundle placed
    → AreWithin (length cur) placed
spotted-within own at cur [] [] s = tt
spotted-within own at cur (n ∷ ns) (p ∷ ps) s =
    let there = spot-within (is_there cur n.tables) p.place (spot cur n.tables) (length cur) (length (with_module cur n)) (spot-below cur n.tables) (spot-next cur n.tables) s.0 (length-with cur n) in (
      there.0,
      subst (λ (ts : List Tally). All (λ (t : Tally). t.place ≡ p.place) ts) (sym s.1) (tallies-placed p.place n.tables (own p.place) (at p.place)),
      subst (λ (k : ℕ). AreWithin k ps) (sym there.1) (spotted-within own at (with_module cur n) ns ps s.2),
    )
spotted-within _ _ _ _ _ s = absurd s
