use Rattle.mv_linker.proofs.Common.{◌∙◌, ◌≡◌, ◌≤◌, AreCodesOf, Code, IsStore, List, PublishedModule, ap, ap₂, arith, length, published_under, subst, sym, tables_in, with_modules}
use Rattle.mv_linker.specs.Copied.{AreSameCodes}
use Rattle.mv_linker.proofs.Copies.{again, codes_are}
use Rattle.mv_linker.proofs.Joining.Empty.{store_of_nothing}
use Rattle.mv_linker.proofs.store.Store.copied.Goals as goal

pub put_modules-requires-clause-keyed : goal.put_modules-requires-clause-keyed
put_modules-requires-clause-keyed c = (store_of_nothing c.in_ok-modules.modules.entries c.in_ok-modules.ensures.empty).1

pub put_modules-requires-clause-room : goal.put_modules-requires-clause-room
put_modules-requires-clause-room c = omega (arith, c.in_ok-modules.ensures.spare, c.len.ensures, c.in_ok-entries.entries.ok.0)

pub invariant_of-result : goal.invariant_of-result
invariant_of-result c =
    let es = c.self.inside.modules.entries in
    let joined : published_under c.put_modules.new.modules.entries ≡ published_under es =
    c.put_modules.ensures.modules ∙ ap₂ with_modules (ap published_under c.in_ok-modules.ensures.empty) c.in_ok-entries.ensures ∙ again (published_under es) c.self.invariant.0.once in
    let same : AreSameCodes c.self.inside.codes.items c.in_ok-codes.codes.items = subst (λ (cs : List Code). AreSameCodes cs c.in_ok-codes.codes.items) c.deref.ensures.value c.in_ok-codes.ensures in (
      subst IsStore (sym joined) c.self.invariant.0,
      c.put_modules.ensures.keyed,
      subst (λ (l : List PublishedModule). AreCodesOf (tables_in l) c.in_ok-codes.codes.items) (sym joined)
          (codes_are (tables_in (published_under es)) c.self.inside.codes.items c.in_ok-codes.codes.items same c.self.invariant.2),
      subst (λ (l : List PublishedModule). length l ≤ 65536) (sym joined) c.self.invariant.3,
    )

pub returns : goal.returns
returns c =
    let es = c.self.inside.modules.entries in
    c.put_modules.ensures.modules ∙ ap₂ with_modules (ap published_under c.in_ok-modules.ensures.empty) c.in_ok-entries.ensures ∙ again (published_under es) c.self.invariant.0.once ∙ c.self.view_is
