-- The sizes of the structs of a bundle that defines none.
use Rattle.mv_linker.proofs.Common.{[], ℕ, ◌==◌, ◌∙◌, ◌∷◌, ◌≡◌, AreSizes, AreSmall, Bool, List, Module, New, Size, Some, and_parts, ap, eqb-true, length, length-map, list_all, map}
use Rattle.mv_linker.proofs.Common.{nil_from_length, none-some, offered, refl, same_Some, slice_get, struct_is_small, suc, sym, true, zero}
use Rattle.mv_bound_rules.proofs.Entries.{mapped-at}

abbrev pub defines_none : New → Bool
defines_none n = length n.module.structs == 0

-- a module of the bundle has no structs
none-defined : (news : List New) (i : ℕ) (m : Module) → list_all defines_none news ≡ true → slice_get (offered news) i ≡ Some m → m.structs ≡ []
none-defined [] i m none at = absurd (none-some m at)
none-defined (n ∷ news) zero m none at =
    let parts = and_parts (defines_none n) (list_all defines_none news) none in
    let same : n.module ≡ m = same_Some n.module m at in
    sym (ap (λ (m : Module). m.structs) same) ∙ nil_from_length n.module.structs (eqb-true (length n.module.structs) 0 parts.0)
none-defined (n ∷ news) (suc i) m none at =
    let parts = and_parts (defines_none n) (list_all defines_none news) none in
    none-defined news i m parts.1 at

-- and a row without sizes
no-row : (news : List New) (i : ℕ) (row : List Size) → slice_get (map (λ (n : New). []) news) i ≡ Some row → row ≡ []
no-row news i row at = let n = mapped-at (λ (n : New). []) news i row at in sym n.2

all-small : (modules : List Module) (news : List New) → list_all defines_none news ≡ true → list_all (λ m. list_all (struct_is_small modules m) m.structs) (offered news) ≡ true
all-small modules [] none = refl
all-small modules (n ∷ news) none =
    let parts = and_parts (defines_none n) (list_all defines_none news) none in
    rw (nil_from_length n.module.structs (eqb-true (length n.module.structs) 0 parts.0)) (all-small modules news parts.1)

pub no-sizes : (modules : List Module) (news : List New) → list_all defines_none news ≡ true → AreSizes modules (offered news) (map (λ (n : New). []) news) × AreSmall modules (offered news)
no-sizes modules news none = (
  record {
    len = length-map news (λ (n : New). []) ∙ sym (length-map news (λ (n : New). n.module));
    count = λ i m row at here. ap length (no-row news i row here) ∙ sym (ap length (none-defined news i m none at));
    each = λ i j name row s named here at. absurd (none-some s (sym (ap (λ (l : List Size). slice_get l j) (no-row news i row here)) ∙ at));
  },
  all-small modules news none,
)
