use Rattle.mv_linker.proofs.Common.{◌∙◌, ◌≡◌, AreCodesOf, AreFieldsAt, Bor, List, None, Option, Part, PublishedModule, Some, ap, ap₂, option_map, slice_get, subst, sym, tables_in}
use Rattle.mv_bound_rules.proofs.Found.{got}
use Rattle.mv_linker.proofs.Kept.StoredShapes.{fields-known, no_fields}
use Rattle.mv_linker.proofs.store.Store.fields.Goals as goal

pub returns-in_err-code-clause-fields : goal.returns-in_err-code-clause-fields
returns-in_err-code-clause-fields c =
    let codes = c.self.inside.codes.items in
    let are : AreCodesOf (tables_in c.args.self.now) codes = subst (λ (s : List PublishedModule). AreCodesOf (tables_in s) codes) c.self.view_is c.self.invariant.2 in
    let none : slice_get codes c.args.d.place ≡ None = sym (ap₂ slice_get c.deref.ensures.value c.from.ensures) ∙ sym (got c.deref.result.now c.from.result None c.in_err-code.ensures.lookup) in
    subst (λ (o : Option (Bor (List Part))). AreFieldsAt (tables_in c.args.self.now) c.args.d (option_map (λ p. p.now) o)) (sym c.from_residual.ensures)
    (no_fields (tables_in c.args.self.now) codes are c.args.d none)

pub returns-clause-fields : goal.returns-clause-fields
returns-clause-fields c =
    let codes = c.self.inside.codes.items in
    let code = c.in_ok-code.code.now in
    let are : AreCodesOf (tables_in c.args.self.now) codes = subst (λ (s : List PublishedModule). AreCodesOf (tables_in s) codes) c.self.view_is c.self.invariant.2 in
    let at : slice_get codes c.args.d.place ≡ Some code =
    sym (ap₂ slice_get c.deref.ensures.value c.from.ensures) ∙ sym (got c.deref.result.now c.from.result (Some c.in_ok-code.code) c.in_ok-code.ensures.lookup) in
    subst (λ (o : Option (List Part)). AreFieldsAt (tables_in c.args.self.now) c.args.d o) (sym (c.get-2.ensures ∙ ap (slice_get code.interface.parts) c.from-2.ensures))
    (fields-known (tables_in c.args.self.now) codes are c.args.d code at)
