use Rattle.mv_ledger.proofs.Common.{◌∙◌, arith, sym}
use Rattle.mv_ledger.proofs.Asked.{none-left, one-left, place-below}
use Rattle.mv_ledger.proofs.modules.Modules.next.Goals as goal

pub returns-in_err-name : goal.returns-in_err-name
returns-in_err-name c =
    let none = sym c.self.view_is ∙ none-left c.self.inside.store.now c.len-len.ensures.store c.self.inside.place (sym c.in_err-name.ensures) in
    rw c.from_residual.ensures (none, none)

pub invariant_of-self : goal.invariant_of-self
invariant_of-self c =
    omega (arith, place-below c.self.inside.store.now c.len-len.ensures.store c.self.inside.place (record { address = c.in_ok-name.name.0; name = c.in_ok-name.name.1.now }) (sym c.in_ok-name.ensures))

pub returns : goal.returns
returns c =
    let first = one-left c.self.inside.store.now c.len-len.ensures.store c.self.inside.place (record { address = c.in_ok-name.name.0; name = c.in_ok-name.name.1.now }) (sym c.in_ok-name.ensures) in
    (first.0, sym c.self.view_is ∙ first.1, first.2)
