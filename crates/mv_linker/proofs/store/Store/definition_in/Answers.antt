use Rattle.mv_linker.proofs.Common.{◌<◌, ◌>>=◌, ◌≡◌, ◌≤◌, ℕ, IfSome, List, Module, None, Option, PublishedModule, Some, StructName, ap, arith, find_index, is_module, is_struct, length, length-map, module_place, slice_get}
use Rattle.mv_linker.proofs.Common.{subst, sym, tables_in}
use Rattle.mv_linker.proofs.Lemmas.{place_below}
use Rattle.mv_bound_rules.proofs.Found.{then_found}
use Rattle.mv_bound_rules.proofs.NameLemmas.{module_place-is}
use Rattle.mv_linker.specs.Questions.{struct_place}
use Rattle.mv_linker.proofs.store.Store.definition_in.Goals as goal

-- the place of a name is of 16 bits
low : (published : List PublishedModule) (name : StructName) (place : ℕ) → length published ≤ 65536 → module_place (tables_in published) name.home ≡ Some place → place < 65536
low published name place few e = omega (arith, few, place_below (is_module name.home) (tables_in published) place e, length-map published (λ (p : PublishedModule). p.tables))

-- what is defined in the module of a name
found-in : (modules : List Module) (name : StructName) (place : ℕ) (index : Option ℕ) → module_place modules name.home ≡ Some place
    → IfSome (slice_get modules place) (λ m. index ≡ find_index (is_struct m name) m.structs)
    → (index >>= λ i. Some (record { place = place; index = i })) ≡ struct_place modules name
found-in modules name place index e is =
    let m = module_place-is modules name.home place e in
    let same : index ≡ find_index (is_struct m.0 name) m.0.structs = subst (λ (o : Option Module). IfSome o (λ m. index ≡ find_index (is_struct m name) m.structs)) m.1 is in
    sym (then_found (module_place modules name.home) _ place _ e (then_found (slice_get modules place) _ m.0 _ m.1 (ap (λ (o : Option ℕ). o >>= λ i. Some (record { place = place; index = i })) (sym same))))

pub overflow_cast-result : goal.overflow_cast-result
overflow_cast-result c = omega (arith, low c.args.self.now c.args.name.now c.args.place c.len-modules.ensures.few c.requires)

pub returns-in-Some : goal.returns-in-Some
returns-in-Some c = found-in (tables_in c.args.self.now) c.args.name.now c.args.place (Some c.in-Some.index) c.requires c.in-Some.ensures.index

pub returns-in-None : goal.returns-in-None
returns-in-None c = found-in (tables_in c.args.self.now) c.args.name.now c.args.place None c.requires c.in-None.ensures.index
