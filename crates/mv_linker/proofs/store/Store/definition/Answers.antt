use Rattle.mv_linker.proofs.Common.{◌>>=◌, ◌∙◌, ◌≡◌, ℕ, List, Module, None, Option, Some, StructName, ap, ap₂, find_index, is_struct, module_place, slice_get, sym, tables_in}
use Rattle.mv_bound_rules.proofs.NameLemmas.{module_of}
use Rattle.mv_linker.specs.Questions.{struct_place}
use Rattle.mv_linker.proofs.store.Store.definition.Goals as goal

-- the place that was searched for is that of the struct's module
place-of : (modules : List Module) (name : StructName) (address : ℕ) (home : List ℕ) (found : Option ℕ) → address ≡ name.home.address → home ≡ name.home.name → found ≡ module_place modules (module_of address home)
    → found ≡ module_place modules name.home
place-of modules name address home found a h e = e ∙ ap (module_place modules) (ap₂ module_of a h)

-- where there is no such module, there is no struct
nowhere : (modules : List Module) (name : StructName) (o : Option ℕ) → o ≡ module_place modules name.home
    → (o >>= λ place. slice_get modules place >>= λ m. find_index (is_struct m name) m.structs >>= λ index. Some (record { place = place; index = index })) ≡ struct_place modules name
nowhere modules name o e = ap (λ (o : Option ℕ). o >>= λ place. slice_get modules place >>= λ m. find_index (is_struct m name) m.structs >>= λ index. Some (record { place = place; index = index })) e

pub definition_in-requires : goal.definition_in-requires
definition_in-requires c = sym (place-of (tables_in c.args.self.now) c.args.name.now c.address.result c.home.result.now (Some c.in-Some.place) c.address.ensures c.home.ensures c.in-Some.ensures)

pub returns-in-None : goal.returns-in-None
returns-in-None c =
    nowhere (tables_in c.args.self.now) c.args.name.now None
    (place-of (tables_in c.args.self.now) c.args.name.now c.address.result c.home.result.now None c.address.ensures c.home.ensures c.in-None.ensures)
