use Rattle.mv_linker.proofs.Common.{◌>>=◌, ◌∙◌, ◌≡◌, AreCodesOf, Code, List, None, Option, PublishedModule, Some, ap, ap₂, slice_get, subst, sym, tables_in}
use Rattle.mv_linker.proofs.LinkedCode.StoredCodes.{others-known}
use Rattle.mv_bound_rules.proofs.Found.{got}
use Rattle.mv_linker.proofs.store.Store.others.Goals as goal

pub returns-in_err-code : goal.returns-in_err-code
returns-in_err-code c =
    let codes = c.self.inside.codes.items in
    let are : AreCodesOf (tables_in c.args.self.now) codes = subst (λ (s : List PublishedModule). AreCodesOf (tables_in s) codes) c.self.view_is c.self.invariant.2 in
    let none : slice_get codes c.args.f.place ≡ None = sym (ap₂ slice_get c.deref.ensures.value c.from.ensures) ∙ sym (got c.deref.result.now c.from.result None c.in_err-code.ensures.lookup) in
    c.from_residual.ensures ∙ sym (ap (λ (o : Option Code). o >>= λ code. slice_get code.others.items c.args.f.index) none) ∙ others-known (tables_in c.args.self.now) codes c.args.f are

pub returns : goal.returns
returns c =
    let codes = c.self.inside.codes.items in
    let code = c.in_ok-code.code.now in
    let are : AreCodesOf (tables_in c.args.self.now) codes = subst (λ (s : List PublishedModule). AreCodesOf (tables_in s) codes) c.self.view_is c.self.invariant.2 in
    let at : slice_get codes c.args.f.place ≡ Some code =
    sym (ap₂ slice_get c.deref.ensures.value c.from.ensures) ∙ sym (got c.deref.result.now c.from.result (Some c.in_ok-code.code) c.in_ok-code.ensures.lookup) in
    c.copied.ensures ∙ got c.deref-2.result.now c.from-2.result c.get-2.result c.get-2.ensures.lookup ∙ ap₂ slice_get c.deref-2.ensures.value c.from-2.ensures
    ∙ sym (ap (λ (o : Option Code). o >>= λ code. slice_get code.others.items c.args.f.index) at) ∙ others-known (tables_in c.args.self.now) codes c.args.f are
