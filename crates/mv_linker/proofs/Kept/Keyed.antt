-- A map from names to texts finds and takes what the list of its modules says.
pub use Rattle.mv_bound_rules.proofs.Found.{position-find_index}
use Rattle.mv_linker.proofs.Common.{[], ◌&&◌, ◌==◌, ◌∙◌, ◌∷◌, ◌≡◌, AreKeyed, Bool, List, ModuleName, Name}
use Rattle.mv_linker.proofs.Common.{Some, Texts, ap, arith, bytes_eq, find_index, keys_of, module_place, name_in, nat_eq_equiv}
use Rattle.mv_linker.proofs.Common.{own_name, position, published_as, published_under, refl, same_module, suc, tables_in}
use Rattle.std.specs.Cmp.Lexicographic.{nat_list_eq_equiv}

-- two names are one whichever comes first
pub same_module-turns : (a b : ModuleName) → same_module a b ≡ same_module b a
same_module-turns a b = ap (λ t. t && bytes_eq a.name b.name) (nat_eq_equiv.symm a.address b.address) ∙ ap (λ t. (b.address == a.address) && t) (nat_list_eq_equiv.symm a.name b.name)

-- what is said of each entry is said of the first, and of the others
first_keyed : (e : Name × Texts) (es : List (Name × Texts)) → AreKeyed (e ∷ es) → own_name (published_as e.1).tables ≡ Some (name_in e.0)
first_keyed e es keyed = keyed 0 e (omega arith)

rest_keyed : (e : Name × Texts) (es : List (Name × Texts)) → AreKeyed (e ∷ es) → AreKeyed es
rest_keyed e es keyed k d lt = keyed (suc k) d (omega (arith, lt))

-- the key that stands for a name is that of the module that has it
found-keyed : (test : Name → Bool) (name : ModuleName) → ((k : Name) → test k ≡ same_module name (name_in k)) → (es : List (Name × Texts)) → AreKeyed es
    → find_index test (keys_of es) ≡ module_place (tables_in (published_under es)) name
found-keyed test name is [] keyed = refl
found-keyed test name is (e ∷ es) keyed =
    rw (first_keyed e es keyed, is e.0, same_module-turns name (name_in e.0), found-keyed test name is es (rest_keyed e es keyed)) refl

-- so a map's lookup gives the place of the module that has the name
pub place-keyed : (test : Name → Bool) (name : ModuleName) → ((k : Name) → test k ≡ same_module name (name_in k)) → (es : List (Name × Texts)) → AreKeyed es
    → position test (keys_of es) ≡ module_place (tables_in (published_under es)) name
place-keyed test name is es keyed = position-find_index test (keys_of es) ∙ found-keyed test name is es keyed
