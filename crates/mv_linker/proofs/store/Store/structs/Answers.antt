use Rattle.mv_linker.proofs.Common.{◌∙◌, ◌≡◌, AreCodesOf, List, None, PublishedModule, Some, ap, arith, slice_get, subst, sym, tables_in}
use Rattle.mv_bound_rules.proofs.Found.{got}
use Rattle.mv_linker.proofs.Kept.StoredShapes.{no_structs, structs-known}
use Rattle.mv_linker.proofs.store.Store.structs.Goals as goal

pub returns-in-None : goal.returns-in-None
returns-in-None c =
    let codes = c.self.inside.codes.items in
    let are : AreCodesOf (tables_in c.args.self.now) codes = subst (λ (s : List PublishedModule). AreCodesOf (tables_in s) codes) c.self.view_is c.self.invariant.2 in
    let none : slice_get codes c.args.place ≡ None = sym (ap (λ l. slice_get l c.args.place) c.deref.ensures.value) ∙ sym (got c.deref.result.now c.args.place None c.in-None.ensures.lookup) in
    record { count = no_structs (tables_in c.args.self.now) codes are c.args.place none; few = omega arith }

pub returns-in-Some : goal.returns-in-Some
returns-in-Some c =
    let codes = c.self.inside.codes.items in
    let code = c.in-Some.code.now in
    let are : AreCodesOf (tables_in c.args.self.now) codes = subst (λ (s : List PublishedModule). AreCodesOf (tables_in s) codes) c.self.view_is c.self.invariant.2 in
    let at : slice_get codes c.args.place ≡ Some code =
    sym (ap (λ l. slice_get l c.args.place) c.deref.ensures.value) ∙ sym (got c.deref.result.now c.args.place (Some c.in-Some.code) c.in-Some.ensures.lookup) in
    let count = c.struct_count.ensures.count ∙ structs-known (tables_in c.args.self.now) codes are c.args.place code at in
    record { count = count; few = c.struct_count.ensures.few }
