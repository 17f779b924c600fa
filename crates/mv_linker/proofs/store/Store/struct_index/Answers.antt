use Rattle.mv_linker.proofs.Common.{ℕ, ◌<◌, ◌≡◌, AreCodesOf, IfSome, IsOutline, IsStore, List, Module, None, Option, OutlineView, PublishedModule, Some, StructName, arith, find_index}
use Rattle.mv_linker.proofs.Common.{is_struct, length, module_place, own_name, refl, slice_get, slice_get_read, subst, sym, tables_in}
use Rattle.mv_linker.proofs.Lemmas.{place_below}
use Rattle.std.specs.Prelude.{MatchOption}
use Rattle.mv_interface.specs.Outline.{IsStructNamed}
use Rattle.mv_bound_rules.proofs.NameLemmas.{module_place-is, named_in}
use Rattle.mv_move_types.specs.Named.{is_module}
use Rattle.mv_linker.proofs.LinkedCode.StoredCodes.{interface-known}
use Rattle.mv_linker.proofs.StructPlaces.{no-struct-found, struct-found}
use Rattle.mv_linker.proofs.store.Store.struct_index.Goals as goal

-- the place is that of a module
below : (published : List PublishedModule) (codes : ℕ) (name : StructName) (place : ℕ) → codes ≡ length (tables_in published) → module_place (tables_in published) name.home ≡ Some place → place < codes
below published codes name place same e = omega (arith, same, place_below (is_module name.home) (tables_in published) place e)

-- what a search for the identifier gives is the place of the name
by_identifier : (published : List PublishedModule) → IsStore published → (place : ℕ) (m : Module) (name : StructName) (o : OutlineView) (found : Option ℕ) → slice_get (tables_in published) place ≡ Some m
    → own_name m ≡ Some name.home → IsOutline m o → MatchOption found ((k : ℕ) → IsStructNamed o k name.name → ⊥) (λ k. IsStructNamed o k name.name)
    → found ≡ find_index (is_struct m name) m.structs
by_identifier published is place m name o None at own outline none =
    sym (no-struct-found m name o.structs outline.structs (λ k s there named. none k (record { entry = s; there = there; named = named })))
by_identifier published is place m name o (Some k) at own outline found =
    sym (subst (λ (n : List ℕ). find_index (is_struct m (named_in name.home n)) m.structs ≡ Some k) found.named
    (struct-found published is place k m name.home o.structs found.entry at own outline.structs found.there))

pub index-requires : goal.index-requires
index-requires c =
    let published = c.args.self.now in
    let codes = c.self.inside.codes in
    let are : AreCodesOf (tables_in published) codes.items = subst (λ (s : List PublishedModule). AreCodesOf (tables_in s) codes.items) c.self.view_is c.self.invariant.2 in
    omega (arith, below published (length codes.items) c.args.name.now c.args.place are.len c.requires, codes.ok.0)

pub returns-clause-index : goal.returns-clause-index
returns-clause-index c =
    let published = c.args.self.now in
    let modules = tables_in published in
    let codes = c.self.inside.codes.items in
    let name = c.args.name.now in
    let are : AreCodesOf modules codes = subst (λ (s : List PublishedModule). AreCodesOf (tables_in s) codes) c.self.view_is c.self.invariant.2 in
    let store : IsStore published = subst IsStore c.self.view_is c.self.invariant.0 in
    let m = module_place-is modules name.home c.args.place c.requires in
    let code_at : slice_get codes c.args.place ≡ Some c.index.result.now = slice_get_read codes (length codes) c.args.place c.index.result.now refl (below published (length codes) name c.args.place are.len c.requires) c.index.ensures in
    let outline : IsOutline m.0 c.index.result.now.interface.outline = (interface-known modules codes c.args.place m.0 c.index.result.now are m.1 code_at).outline in
    let found = subst (λ (n : List ℕ). MatchOption c.find_struct.result ((k : ℕ) → IsStructNamed c.index.result.now.interface.outline k n → ⊥) (λ k. IsStructNamed c.index.result.now.interface.outline k n)) c.identifier.ensures c.find_struct.ensures.found in
    subst (λ (o : Option Module). IfSome o (λ m. c.find_struct.result ≡ find_index (is_struct m name) m.structs)) (sym m.1)
    (by_identifier published store c.args.place m.0 name c.index.result.now.interface.outline c.find_struct.result m.1 m.2 outline found)
