-- The modules of a bundle are found in maps as the lists say.
use Rattle.mv_linker.proofs.Common.{[], ℕ, ◌&&◌, ◌++◌, ◌||◌, ◌∙◌, ◌∷◌, ◌≡◌, ArePlacesOf, Bool, Kept, List, Module, ModuleName, Name, None, Option, PutsName, PutsPlace}
use Rattle.mv_linker.proofs.Common.{Some, all_differ, ap, arith, cases_Bool, cond, false, found_among, have_one_name, inl, inr, is_module, is_some, length, list_any, lookup, name_in, not}
use Rattle.mv_linker.proofs.Common.{option_map_or, option_or, own_name, refl, same_module, sym, true, has_name_of}
use Rattle.std.proofs.lemmas.List.Folds.{list_any-append}
use Rattle.mv_linker.proofs.Kept.Keyed.{same_module-turns}

-- the names are those of modules
abbrev pub AreNamesIn : {V : Type 0} → List (Name × V) → List Kept → Type 0
AreNamesIn entries kept = (q : Name) → is_some (lookup (has_name_of q) entries) ≡ list_any (λ k. is_module (name_in q) k.published.tables) kept

-- the first of two, and then a third
or-or : {A : Type 0} (o : Option A) (p : A) (before : Option A) → option_or (option_or o (Some p)) before ≡ option_or o (Some p)
or-or o p before = grind arith

-- what is found among a bundle comes before what was found before
pub found-before : (name : ModuleName) (ns : List Module) (places : List ℕ) (before : Option ℕ) → found_among name ns places before ≡ option_or (found_among name ns places None) before
found-before name [] places before = refl
found-before name (n ∷ ns) [] before = refl
found-before name (n ∷ ns) (p ∷ places) before = elim (cases_Bool (is_module name n)) [
  | inl here ↦ (let f = found-before name ns places (Some p) in rw (here, f) (sym (or-or (found_among name ns places None) p before)))
  | inr other ↦ rw other (found-before name ns places before)
]

-- one more of a bundle is found at its place
found-push : (name : ModuleName) (ns : List Module) (places : List ℕ) (n : Module) (p : ℕ) (before : Option ℕ) → length places ≡ length ns
    → found_among name (ns ++ n ∷ []) (places ++ p ∷ []) before ≡ cond (is_module name n) (Some p) (found_among name ns places before)
found-push name [] [] n p before e = refl
found-push name [] (x ∷ places) n p before e = absurd (omega (arith, e))
found-push name (m ∷ ns) [] n p before e = absurd (omega (arith, e))
found-push name (m ∷ ns) (x ∷ places) n p before e = found-push name ns places n p (cond (is_module name m) (Some x) before) (omega (arith, e))

-- whether a module has a name, by its own
has-name : (n : Module) (own name : ModuleName) → own_name n ≡ Some own → is_module name n ≡ same_module own name
has-name n own name e = rw e refl

pub places-put : (old new : List (Name × ℕ)) (ns : List Module) (places : List ℕ) (n : Module) (own : Name) (p : ℕ) → ArePlacesOf old ns places → PutsPlace old new own p
    → own_name n ≡ Some (name_in own) → length places ≡ length ns → ArePlacesOf new (ns ++ n ∷ []) (places ++ p ∷ [])
places-put old new ns places n own p so puts named len q =
    puts q
    ∙ ap (cond (same_module (name_in own) (name_in q)) (Some p)) (so q)
    ∙ ap (λ b. cond b (Some p) (found_among (name_in q) ns places None)) (sym (has-name n (name_in own) (name_in q) named))
    ∙ sym (found-push (name_in q) ns places n p None len)

-- ---- names that differ

pub differ-push : {A : Type 0} (same : A → A → Bool) (xs : List A) (x : A) → all_differ same (xs ++ x ∷ []) ≡ (all_differ same xs && not (list_any (λ y. same y x) xs))
differ-push same [] x = refl
differ-push same (y ∷ ys) x =
    rw (list_any-append (same y) ys (x ∷ []), differ-push same ys x) (step (list_any (same y) ys) (same y x) (all_differ same ys) (list_any (λ y. same y x) ys))
  where
    step : (a b c d : Bool) → (not (a || (b || false)) && (c && not d)) ≡ ((not a && c) && not (b || d))
    step a b c d = grind arith

-- a module has the name of one whose name is known exactly where it is the module of that name
one-name : (m n : Module) (own : ModuleName) → own_name n ≡ Some own → have_one_name m n ≡ is_module own m
one-name m n own e = elim (own_name m) as (λ o. option_map_or (λ name. is_module name n) o false ≡ option_map_or (λ name. same_module name own) o false)
    [ None ↦ refl | Some name ↦ has-name n own name e ∙ same_module-turns own name ]

any-same : (kept : List Kept) (n : Module) (own : ModuleName) → own_name n ≡ Some own
    → list_any (λ (k : Kept). have_one_name k.published.tables n) kept ≡ list_any (λ (k : Kept). is_module own k.published.tables) kept
any-same [] n own e = refl
any-same (k ∷ kept) n own e =
    ap (λ b. b || list_any (λ (k : Kept). have_one_name k.published.tables n) kept) (one-name k.published.tables n own e)
    ∙ ap (λ b. is_module own k.published.tables || b) (any-same kept n own e)

abbrev pub differ : List Kept → Bool
differ kept = all_differ (λ (j k : Kept). have_one_name j.published.tables k.published.tables) kept

-- the names of the first entries are there, and whether they differ is known
pub record SeenSoFar {V : Type 0} (entries : List (Name × V)) (kept : List Kept) (so : Bool) : Type 0 where
  pub names : AreNamesIn entries kept
  pub differ : so ≡ differ kept

pub seen-more : {V : Type 0} (old new : List (Name × V)) (kept : List Kept) (k : Kept) (own : Name) (so is_new next : Bool) → SeenSoFar old kept so → PutsName old new own
    → is_new ≡ not (is_some (lookup (λ k. same_module (name_in own) (name_in k)) old)) → own_name k.published.tables ≡ Some (name_in own) → next ≡ (so && is_new)
    → SeenSoFar new (kept ++ k ∷ []) next
seen-more old new kept k own so is_new next seen puts is named e = record {
  names = λ q.
      puts q ∙ ap (cond (same_module (name_in own) (name_in q)) true) (seen.names q)
      ∙ ap (λ b. cond b true (list_any (λ (k : Kept). is_module (name_in q) k.published.tables) kept)) (sym (has-name k.published.tables (name_in own) (name_in q) named))
      ∙ either (is_module (name_in q) k.published.tables) (list_any (λ (k : Kept). is_module (name_in q) k.published.tables) kept)
      ∙ sym (list_any-append (λ (k : Kept). is_module (name_in q) k.published.tables) kept (k ∷ []));
  differ =
      e ∙ ap (λ b. b && is_new) seen.differ
      ∙ ap (λ b. differ kept && b) (is ∙ ap not (seen.names own ∙ sym (any-same kept k.published.tables (name_in own) named)))
      ∙ sym (differ-push (λ (j k : Kept). have_one_name j.published.tables k.published.tables) kept k);
}
  where
    either : (a b : Bool) → cond a true b ≡ (b || (a || false))
    either a b = grind arith
