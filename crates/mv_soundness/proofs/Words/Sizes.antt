-- In an accepted store each struct's leaves are known, and at most 256.
use Rattle.mv_soundness.proofs.Typing.Common.{◌≡◌, List, ap, ◌∙◌, subst, true, false, Option, Some, option_and_then_some, list_all, option_map_or, nat_le, slice_get, Module}
use Rattle.mv_soundness.proofs.Typing.Common.{StructName, ◌>>=◌, on_bind, all_at, StoreAccepted}
use Rattle.mv_move_types.specs.Leaves.{leaves_within}
use Rattle.mv_move_types.specs.Names.{same_struct}
use Rattle.mv_bound_rules.proofs.{NameLemmas.same_struct-is}
use Rattle.mv_soundness.proofs.Typing.Callees.{on_found}
use Rattle.mv_soundness.proofs.Words.Leaves.{Sized}
use Rattle.std.proofs.lemmas.Bool.{leb-true}
use Rattle.mv_move_types.specs.{Options.find_index, Module.name_of_struct, Named.is_struct, Named.module_named, Named.module_place}
use Rattle.mv_link_rules.specs.StoreRules.{struct_is_small}
use Rattle.mv_bound_rules.proofs.Found.{found_passes}

pub sizes : (modules : List Module) → StoreAccepted modules → Sized modules
sizes modules store name d e =
    on_bind (module_named modules name.home) _ d e (λ m m_is e1.
    on_bind (find_index (is_struct m name) m.structs) _ d e1 (λ i i_is e2.
    on_bind (slice_get m.structs i) (λ s. Some (m, s.fields)) d e2 (λ s s_is e3.
    option_and_then_some (slice_get modules) (module_place modules name.home) m m_is (λ place place_at place_is.
    let small : list_all (struct_is_small modules m) m.structs ≡ true = all_at (λ m. list_all (struct_is_small modules m) m.structs) modules place m store.links.small place_is in
    let fits : struct_is_small modules m s ≡ true = all_at (struct_is_small modules m) m.structs i s small s_is in
    let passes : is_struct m name s ≡ true = found_passes (is_struct m name) m.structs i s i_is s_is in
    on_found (λ own. same_struct own name) (name_of_struct m s) passes (λ own own_is same.
    let named_is : name_of_struct m s ≡ Some name = own_is ∙ ap (λ (x : StructName). Some x) (same_struct-is own name same) in
    on_found (λ n. nat_le n 256) (leaves_within 8 modules name)
    (subst (λ (x : Option StructName). option_map_or (λ n. nat_le n 256) (x >>= leaves_within 8 modules) false ≡ true) named_is fits) (λ n is few. (n, is, leb-true n 256 few)))))))
