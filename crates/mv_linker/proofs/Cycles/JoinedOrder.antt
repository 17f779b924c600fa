-- The order of modules once a bundle joins.
use Rattle.mv_linker.proofs.Common.{[], ℕ, ◌∙◌, ◌∷◌, ◌≡◌, List, Module, Some, ap, cases_Bool, cond, false, have_one_name, inl, inr}
use Rattle.mv_linker.proofs.Common.{none-some, own_name, refl, same_Some, slice_get, suc, sym, true, with_table, with_tables, zero}
use Rattle.mv_linker.proofs.Lemmas.{have_one_name-is}

-- the old names stand in their places
pub record IsNamedAlike (result : List Module) (i : ℕ) (m : Module) : Type 0 where
  pub new : Module
  pub at : slice_get result i ≡ Some new
  pub named : own_name new ≡ own_name m

name-stays : (ms : List Module) (n : Module) (i : ℕ) (m : Module) → slice_get ms i ≡ Some m → IsNamedAlike (with_table ms n) i m
name-stays [] n i m e = absurd (none-some m e)
name-stays (x ∷ xs) n zero m e = elim (cases_Bool (have_one_name n x)) [
  | inl so ↦ (let names = have_one_name-is n x so in record { new = n; at = rw so refl; named = names.1 ∙ sym names.2 ∙ ap own_name (same_Some x m e) })
  | inr other ↦ record { new = m; at = rw other e; named = refl }
]
name-stays (x ∷ xs) n (suc i) m e =
    let r = name-stays xs n i m e in
    elim (have_one_name n x) as (λ b. IsNamedAlike (cond b (n ∷ xs) (x ∷ with_table xs n)) (suc i) m) [ true ↦ record { new = m; at = e; named = refl } | false ↦ record { new = r.new; at = r.at; named = r.named } ]

pub names-stay : (ms ns : List Module) (i : ℕ) (m : Module) → slice_get ms i ≡ Some m → (new : Module) × (slice_get (with_tables ms ns) i ≡ Some new) × (own_name new ≡ own_name m)
names-stay ms [] i m e = (m, e, refl)
names-stay ms (n ∷ ns) i m e =
    let one = name-stays ms n i m e in
    let rest = names-stay (with_table ms n) ns i one.new one.at in
    (rest.0, rest.1, rest.2 ∙ one.named)
