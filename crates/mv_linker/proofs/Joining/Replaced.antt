-- What a module of a bundle replaces is told by the place that it takes.
use Rattle.mv_linker.proofs.Common.{[], ℕ, ◌<◌, ◌>>=◌, ◌∙◌, ◌∷◌, ◌≡◌, ◌≤◌, List, Module, ModuleName, None, Option, Some, all_differ, all_named, ap, arith, cases_lt, cond, false, false_from_ne_true}
use Rattle.mv_linker.proofs.Common.{find_index, first_so, have_one_name, inl, inr, is_module, is_some, length, module_place, none-some, option_map_or, own_name, place_for, places_in, refl, same_Some, second_so}
use Rattle.mv_linker.proofs.Common.{replaced_in, slice_get, slice_get_within, suc, sym, true, unwrap_or, with_table, zero}
use Rattle.std.proofs.Common.{true≢false}
use Rattle.mv_linker.proofs.Lemmas.{all-among, among-at, found_at, have_one_name-from, is_module-is}
use Rattle.mv_linker.proofs.Members.{first_differs, rest_differ}
use Rattle.mv_linker.proofs.Joining.Scopes.{find-with_table, length-with_table, there}

-- what stands at a place is there
within : (old : List Module) (name : ModuleName) (p : ℕ) → module_place old name ≡ Some p → p < length old
within old name p e = let f = found_at (is_module name) old p e in slice_get_within old p f.entry f.at

-- a place among the old ones is that of the module of this name, and a place behind them says that there is none
abbrev Tells : List Module → ModuleName → ℕ → Type 0
Tells old name p = (p < length old → module_place old name ≡ Some p) × (length old ≤ p → module_place old name ≡ None)

tells-first : (old : List Module) (name : ModuleName) (p : ℕ) (o : Option ℕ) → module_place old name ≡ o → unwrap_or o (length old) ≡ p → Tells old name p
tells-first old name p None e at = (λ low. absurd (omega (arith, low, at)), λ _. e)
tells-first old name p (Some q) e at = (λ _. e ∙ ap Some at, λ high. absurd (omega (arith, high, at, within old name q e)))

tells-before : (old : List Module) (n : Module) (own name : ModuleName) (p : ℕ) → own_name n ≡ Some own → is_module name n ≡ false → Tells (with_table old n) name p → Tells old name p
tells-before old n own name p named apart (low, high) =
    let same : module_place (with_table old n) name ≡ module_place old name =
    find-with_table old n own name named ∙ ap (λ b. cond b (Some (place_for old n)) (module_place old name)) apart in
    let longer : length old ≤ length (with_table old n) = not_shorter in (
      λ h. sym same ∙ low (omega (arith, h, longer)),
      λ h. elim (cases_lt p (length (with_table old n))) [
        | inl within_both ↦ absurd (omega (arith, h, within old name p (sym same ∙ low within_both)))
        | inr behind ↦ sym same ∙ high behind
      ],
    )
  where
    not_shorter : length old ≤ length (with_table old n)
    not_shorter = let e = length-with_table old n in grind (arith, e)

-- the place that a module of a bundle takes tells what it replaces
tells : (old ns : List Module) (k p : ℕ) (n : Module) (name : ModuleName) → own_name n ≡ Some name → all_named ns ≡ true → all_differ have_one_name ns ≡ true
    → slice_get ns k ≡ Some n → slice_get (places_in old ns) k ≡ Some p → Tells old name p
tells old [] k p n name own named apart at placed = absurd (none-some n at)
tells old (m ∷ ns) zero p n name own named apart at placed =
    let this : own_name m ≡ Some name = ap own_name (same_Some m n at) ∙ own in
    tells-first old name p (module_place old name) refl (sym (named_place this) ∙ same_Some (place_for old m) p placed)
  where
    named_place : own_name m ≡ Some name → place_for old m ≡ unwrap_or (module_place old name) (length old)
    named_place e = ap (λ o. unwrap_or (find_index (λ x. option_map_or (λ own. is_module own x) o false) old) (length old)) e
tells old (m ∷ ns) (suc k) p n name own named apart at placed =
    let first = there (own_name m) (first_so (is_some (own_name m)) (all_named ns) named) in
    tells-before old m first.0 name p first.1 (other first.0 first.1)
    (tells (with_table old m) ns k p n name own (second_so (is_some (own_name m)) (all_named ns) named) (rest_differ m ns apart) at placed)
  where
    other : (own : ModuleName) → own_name m ≡ Some own → is_module name m ≡ false
    other _ _ = false_from_ne_true (is_module name m) (λ is.
        true≢false (sym (have_one_name-from m n name (is_module-is name m is) own) ∙ first_differs m ns apart n (among-at ns k n at)))

-- each module of a bundle has a name
name_at : (ns : List Module) (k : ℕ) (n : Module) → all_named ns ≡ true → slice_get ns k ≡ Some n → (name : ModuleName) × (own_name n ≡ Some name)
name_at ns k n named at = there (own_name n) (all-among (λ n. is_some (own_name n)) ns n named (among-at ns k n at))

pub replaced-low : (old ns : List Module) (k p : ℕ) (n : Module) → all_named ns ≡ true → all_differ have_one_name ns ≡ true → slice_get ns k ≡ Some n
    → slice_get (places_in old ns) k ≡ Some p → p < length old → Some p ≡ replaced_in old n
replaced-low old ns k p n named apart at placed low =
    let name = name_at ns k n named at in
    sym (ap (λ o. o >>= module_place old) name.1 ∙ (tells old ns k p n name.0 name.1 named apart at placed).0 low)

pub replaced-none : (old ns : List Module) (k p : ℕ) (n : Module) → all_named ns ≡ true → all_differ have_one_name ns ≡ true → slice_get ns k ≡ Some n
    → slice_get (places_in old ns) k ≡ Some p → length old ≤ p → None ≡ replaced_in old n
replaced-none old ns k p n named apart at placed high =
    let name = name_at ns k n named at in
    sym (ap (λ o. o >>= module_place old) name.1 ∙ (tells old ns k p n name.0 name.1 named apart at placed).1 high)
