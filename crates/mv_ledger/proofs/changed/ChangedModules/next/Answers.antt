use Rattle.mv_ledger.proofs.Common.{◌∙◌, ap, arith, length, subst, sym, IsStore}
use Rattle.mv_ledger.proofs.Asked.{place-below}
use Rattle.mv_ledger.proofs.ModuleChanges.{all-told, left-out, one-told}
use Rattle.mv_ledger.proofs.changed.ChangedModules.next.Goals as goal

pub replaced-change-requires : goal.replaced-change-requires
replaced-change-requires c =
    let here = c.each.self-inside in
    let store = subst IsStore (sym c.each.invariant.2) c.len-len.ensures.store in
    place-below here.now.now store here.place (record { address = c.in-Some.address; name = c.in-Some.name.now }) (sym c.in-Some.ensures)

pub overflow_add-self : goal.overflow_add-self
overflow_add-self c =
    let here = c.each.self-inside in
    let store = subst IsStore (sym c.each.invariant.2) c.len-len.ensures.store in
    omega (arith, place-below here.now.now store here.place (record { address = c.in-Some.address; name = c.in-Some.name.now }) (sym c.in-Some.ensures), ap length c.each.invariant.2, c.len-len.ensures.few)

pub each-smaller : goal.each-smaller
each-smaller c =
    let here = c.each.self-inside in
    let store = subst IsStore (sym c.each.invariant.2) c.len-len.ensures.store in
    omega (arith, place-below here.now.now store here.place (record { address = c.in-Some.address; name = c.in-Some.name.now }) (sym c.in-Some.ensures))

pub each-preserved : goal.each-preserved
each-preserved c =
    let here = c.each.self-inside in (
      c.each.invariant.0
          ∙ left-out here.before.now here.now.now here.place (record { address = c.in-Some.address; name = c.in-Some.name.now }) (sym c.in-Some.ensures) c.replaced-change.result
          c.replaced-change.ensures c.in_default-change.is,
      c.each.invariant.1,
      c.each.invariant.2,
    )

pub returns-in-Some-change : goal.returns-in-Some-change
returns-in-Some-change c =
    let here = c.each.self-inside in
    let one = one-told here.before.now here.now.now here.place (record { address = c.in-Some.address; name = c.in-Some.name.now }) (sym c.in-Some.ensures) c.replaced-change.result
    c.replaced-change.ensures c.in-Some-change.is_replaced c.in-Some-change.is in
    (one.0, sym c.self.view_is ∙ c.each.invariant.0 ∙ one.1, one.2, one.3)

pub returns : goal.returns
returns c =
    let here = c.each.self-inside in
    let store = subst IsStore (sym c.each.invariant.2) c.len-len.ensures.store in
    let told = all-told here.before.now here.now.now here.place store (sym c.in_default.ensures) in
    (sym c.self.view_is ∙ c.each.invariant.0 ∙ told, told)
