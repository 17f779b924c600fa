use Rattle.mv_linker.proofs.Common.{ℕ, ◌∙◌, ◌≡◌, List, ModuleName, None, Option, Some, StructName, StructOutline, ap, ap₂, name_at, name_in, none-some, option_map, published_under, refl, same_Some, slice_get, subst, sym, tables_in}
use Rattle.mv_bound_rules.proofs.Found.{got}
use Rattle.mv_linker.proofs.Kept.StructNames.{named-there, unnamed-there}
use Rattle.mv_linker.proofs.store.Store.struct_name.Goals.{After-from-2}
use Rattle.mv_linker.proofs.store.Store.struct_name.Goals as goal

-- the code of the module at the place
at-place : (c : After-from-2) → slice_get c.self.inside.codes.items c.args.d.place ≡ Some c.in_ok-code.code.now
at-place c = sym (ap₂ slice_get c.deref.ensures.value c.from.ensures) ∙ sym (got c.deref.result.now c.from.result (Some c.in_ok-code.code) c.in_ok-code.ensures.lookup)

-- the modules are those of the store
named-same : (c : After-from-2) → (o : Option StructName) → name_at (tables_in (published_under c.self.inside.modules.entries)) c.args.d.place c.args.d.index ≡ o
    → o ≡ name_at (tables_in c.args.self.now) c.args.d.place c.args.d.index
named-same c o e = sym e ∙ ap (λ s. name_at (tables_in s) c.args.d.place c.args.d.index) c.self.view_is

-- an identifier that is there, and one that isn't
identifier-none : (o : Option StructOutline) → option_map (λ (s : StructOutline). s.identifier) o ≡ None → o ≡ None
identifier-none None e = refl
identifier-none (Some s) e = absurd cc

identifier-some : (o : Option StructOutline) (name : List ℕ) → option_map (λ (s : StructOutline). s.identifier) o ≡ Some name → (s : StructOutline) × (o ≡ Some s) × (s.identifier ≡ name)
identifier-some None name e = absurd (none-some name e)
identifier-some (Some s) name e = (s, refl, same_Some s.identifier name e)

pub returns-in_err-identifier : goal.returns-in_err-identifier
returns-in_err-identifier c =
    let here = (goal.at.returns-in_err-identifier c).After-from-2 in
    let structs = c.in_ok-code.code.now.interface.outline.structs in
    let none : slice_get structs c.args.d.index ≡ None = identifier-none (slice_get structs c.args.d.index) (sym (ap (λ i. option_map (λ (s : StructOutline). s.identifier) (slice_get structs i)) c.from-2.ensures) ∙ sym c.in_err-identifier.ensures) in
    c.from_residual-in_err-identifier.ensures
    ∙ named-same here None (unnamed-there (tables_in (published_under c.self.inside.modules.entries)) c.self.inside.codes.items c.args.d.place c.args.d.index c.in_ok-code.code.now c.self.invariant.2 (at-place here) none)

pub returns : goal.returns
returns c =
    let here = (goal.at.returns c).After-from-2 in
    let entries = c.self.inside.modules.entries in
    let key = c.in_ok-name.name.now in
    let identifier = c.in_ok-identifier.identifier.now in
    let structs = c.in_ok-code.code.now.interface.outline.structs in
    let known : option_map (λ (s : StructOutline). s.identifier) (slice_get structs c.args.d.index) ≡ Some identifier =
    sym (ap (λ i. option_map (λ (s : StructOutline). s.identifier) (slice_get structs i)) c.from-2.ensures) ∙ sym c.in_ok-identifier.ensures in
    let found = identifier-some (slice_get structs c.args.d.index) identifier known in
    let key_at : slice_get entries c.args.d.place ≡ Some (key, c.in_ok-name.field-0-1.now) = sym (ap (slice_get entries) c.from-3.ensures) ∙ sym c.in_ok-name.ensures.entry in
    let home : record { address = key.address; name = c.as_slice.result.now } ≡ name_in key = ap (λ (n : List ℕ). record { address = key.address; name = n }) c.as_slice.ensures.value in
    ap Some (c.new.ensures ∙ ap (λ (h : ModuleName). record { home = h; name = identifier }) home)
    ∙ named-same here (Some (record { home = name_in key; name = identifier }))
    (subst (λ n. name_at (tables_in (published_under entries)) c.args.d.place c.args.d.index ≡ Some (record { home = name_in key; name = n })) found.2 (named-there entries c.self.inside.codes.items c.args.d.place c.args.d.index c.in_ok-code.code.now key c.in_ok-name.field-0-1.now found.0 c.self.invariant.0 c.self.invariant.1 c.self.invariant.2 (at-place here) key_at found.1))
