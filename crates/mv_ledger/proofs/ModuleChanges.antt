-- What is told of the modules that a block has changed.
--   changes-next       what is told of the modules at a place and on
--   no-changes         nothing is told of modules that are as they were
--   none-past          nor behind the last place
--   module-here        the module at a place, by its name
--   all-told, left-out, one-told   one step of telling them
use Rattle.mv_ledger.proofs.Common.{[], ◌++◌, ◌+◌, ◌&&◌, ◌∙◌, ◌∷◌, ◌≡◌, List, None, Option, Some, ap, ap₂, arith, length, refl, subst, sym, true, ℕ, slice_get, IfSome, IsStore, Module, ModuleName, PublishedModule, tables_in}
use Rattle.std.proofs.Common.{Bool, suc, zero, cond, drop}
use Rattle.std.proofs.lemmas.List.{drop-drop}
use Rattle.std.proofs.lemmas.Slice.Eq.{bytes_eq-Decides}
use Rattle.std.specs.Option.{option_and_then}
use Rattle.mv_move_types.specs.Module.{own_name}
use Rattle.mv_bound_rules.proofs.Entries.{mapped-at}
use Rattle.mv_ledger.proofs.Asked.{none-left}
use Rattle.mv_ledger.specs.Changed.{ModuleChange, module_changes, replaced, same_texts, told_module}

-- ---- a list from a place on

first-dropped : {X : Type 0} (xs : List X) (n : ℕ) → slice_get (drop n xs) 0 ≡ slice_get xs n
first-dropped [] zero = refl
first-dropped [] (suc n) = refl
first-dropped (x ∷ xs) zero = refl
first-dropped (x ∷ xs) (suc n) = first-dropped xs n

drop-here : {X : Type 0} (xs : List X) (n : ℕ) (x : X) → slice_get xs n ≡ Some x → drop n xs ≡ x ∷ drop (n + 1) xs
drop-here [] n x e = cc
drop-here (y ∷ ys) zero x e = let same : y ≡ x = cc in ap (λ z. z ∷ ys) same
drop-here (y ∷ ys) (suc n) x e = let more : suc (n + 1) ≡ suc n + 1 = omega arith in drop-here ys n x e ∙ ap (λ (k : ℕ). x ∷ drop k (y ∷ ys)) more

-- ---- what is told

pub changes-next : (before now : List PublishedModule) (place : ℕ) (n : PublishedModule) → slice_get now place ≡ Some n
    → module_changes (drop place before) (drop place now) ≡ told_module n (replaced (slice_get before place) n) ++ module_changes (drop (place + 1) before) (drop (place + 1) now)
changes-next before now place n at =
    ap (module_changes (drop place before)) (drop-here now place n at)
    ∙ ap₂ (λ (p : Option PublishedModule) (ps : List PublishedModule). told_module n (replaced p n) ++ module_changes ps (drop (place + 1) now)) (first-dropped before place) (drop-drop 1 place before)

same-texts : (p : PublishedModule) → same_texts p p ≡ true
same-texts p = ap₂ (λ (a b : Bool). a && b) ((bytes_eq-Decides p.text p.text).1 refl) ((bytes_eq-Decides p.certificate p.certificate).1 refl)

pub no-changes : (ps : List PublishedModule) → module_changes ps ps ≡ []
no-changes [] = refl
no-changes (p ∷ ps) = ap (λ (b : Bool). told_module p (cond b None (Some true)) ++ module_changes ps ps) (same-texts p) ∙ no-changes ps

drop-whole : {X : Type 0} (xs : List X) → drop (length xs) xs ≡ []
drop-whole [] = refl
drop-whole (x ∷ xs) = drop-whole xs

pub none-past : (before now : List PublishedModule) → module_changes before (drop (length now) now) ≡ []
none-past before now = ap (module_changes before) (drop-whole now)

-- ---- the module at a place

pub module-here : (store : List PublishedModule) (place : ℕ) (name : ModuleName) → option_and_then own_name (slice_get (tables_in store) place) ≡ Some name
    → (p : PublishedModule) × (slice_get store place ≡ Some p) × (own_name p.tables ≡ Some name)
module-here store place name = by (slice_get (tables_in store) place) refl
  where
    by : (o : Option Module) → slice_get (tables_in store) place ≡ o → option_and_then own_name o ≡ Some name → (p : PublishedModule) × (slice_get store place ≡ Some p) × (own_name p.tables ≡ Some name)
    by None at e = cc
    by (Some m) at e = let p = mapped-at (λ (p : PublishedModule). p.tables) store place m at in (p.0, p.1, ap own_name p.2 ∙ e)

-- ---- one step of telling them

module _ (before now : List PublishedModule) (place : ℕ) where
  -- all are told where no module is at the place
  pub all-told : IsStore now → option_and_then own_name (slice_get (tables_in now) place) ≡ None → module_changes (drop place before) (drop place now) ≡ []
  all-told is none = ap (module_changes (drop place before)) (none-left now is place none)

  module _ (name : ModuleName) (named : option_and_then own_name (slice_get (tables_in now) place) ≡ Some name) (told : Option Bool)
      (is : IfSome (slice_get now place) (λ n. told ≡ replaced (slice_get before place) n)) where
    here-is : (p : PublishedModule) × (slice_get now place ≡ Some p) × (own_name p.tables ≡ Some name) × (told ≡ replaced (slice_get before place) p)
    here-is =
        let p = module-here now place name named in
        (p.0, p.1, p.2, subst (λ (o : Option PublishedModule). IfSome o (λ n. told ≡ replaced (slice_get before place) n)) p.1 is)

    -- a module that is as it was is left out
    pub left-out : told ≡ None → module_changes (drop place before) (drop place now) ≡ module_changes (drop (place + 1) before) (drop (place + 1) now)
    left-out none =
        let p = here-is in
        changes-next before now place p.0 p.1
        ∙ ap (λ (o : Option Bool). told_module p.0 o ++ module_changes (drop (place + 1) before) (drop (place + 1) now)) (sym p.3 ∙ none)

    -- another one is told
    pub one-told : (is_replaced : Bool) → told ≡ Some is_replaced
        → (c : ModuleChange) × (module_changes (drop place before) (drop place now) ≡ c ∷ module_changes (drop (place + 1) before) (drop (place + 1) now))
        × (own_name c.published.tables ≡ Some name) × (c.is_replaced ≡ is_replaced)
    one-told is_replaced some =
        let p = here-is in (
          record { published = p.0; is_replaced = is_replaced },
          changes-next before now place p.0 p.1
              ∙ ap (λ (o : Option Bool). told_module p.0 o ++ module_changes (drop (place + 1) before) (drop (place + 1) now)) (sym p.3 ∙ some),
          p.2,
          refl,
        )
