use Rattle.mv_linker.proofs.Common.{◌∙◌, ◌≡◌, AreCodesOf, List, None, PublishedModule, Some, StructOutline, ap, ap₂, false, option_map_or, slice_get, subst, sym, tables_in}
use Rattle.mv_bound_rules.proofs.Found.{got}
use Rattle.mv_linker.proofs.Kept.StoredShapes.{key-known, no_key}
use Rattle.mv_linker.proofs.store.Store.is_keyed.Goals as goal

pub returns-in-None : goal.returns-in-None
returns-in-None c =
    let codes = c.self.inside.codes.items in
    let are : AreCodesOf (tables_in c.args.self.now) codes = subst (λ (s : List PublishedModule). AreCodesOf (tables_in s) codes) c.self.view_is c.self.invariant.2 in
    let none : slice_get codes c.args.d.place ≡ None = sym (ap₂ slice_get c.deref.ensures.value c.from.ensures) ∙ sym (got c.deref.result.now c.from.result None c.in-None.ensures.lookup) in
    no_key (tables_in c.args.self.now) codes are c.args.d none

pub returns-in-Some : goal.returns-in-Some
returns-in-Some c =
    let codes = c.self.inside.codes.items in
    let code = c.in-Some.code.now in
    let are : AreCodesOf (tables_in c.args.self.now) codes = subst (λ (s : List PublishedModule). AreCodesOf (tables_in s) codes) c.self.view_is c.self.invariant.2 in
    let at : slice_get codes c.args.d.place ≡ Some code =
    sym (ap₂ slice_get c.deref.ensures.value c.from.ensures) ∙ sym (got c.deref.result.now c.from.result (Some c.in-Some.code) c.in-Some.ensures.lookup) in
    c.is_keyed.ensures ∙ ap (λ i. option_map_or (λ (s : StructOutline). s.abilities.key) (slice_get code.interface.outline.structs i) false) c.from-in-Some.ensures
    ∙ key-known (tables_in c.args.self.now) codes are c.args.d code at
