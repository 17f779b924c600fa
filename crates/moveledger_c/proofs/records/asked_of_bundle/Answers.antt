use Rattle.std.proofs.Common.{Err, ap, inl, inr}
use Rattle.mv_ledger_state.proofs.Phases.{phase-no-memory}
use Rattle.mv_ledger_state.specs.Asking.{offers_of}
use Rattle.moveledger_c.proofs.Fronts.{asked-bundle, no-bundle}
use Rattle.moveledger_c.proofs.records.asked_of_bundle.Goals as goal

pub returns-in-Ok : goal.returns-in-Ok
returns-in-Ok c = asked-bundle c.args.payload.now c.in-Ok.bundle.sender (offers_of c.in-Ok.bundle.offers.items) c.in-Ok.ensures.ok

pub returns-in-Err-Phase : goal.returns-in-Err-Phase
returns-in-Err-Phase c =
    no-bundle c.args.payload.now (elim c.in-Err-Phase.ensures.errors
    [ inl p ↦ c.in-Err-Phase.ensures.refused (ap Err p) | inr q ↦ absurd (phase-no-memory _ _ c.in-Err-Phase.field-0-is q) ])
