use Rattle.mv_ledger_state.proofs.Common.{Err, ap, inl, inr, no_bundle}
use Rattle.mv_ledger_state.proofs.publishing.asked_bundle.Goals as goal
use Rattle.mv_ledger_state.proofs.Phases.{phase-no-memory}

pub returns-in-Err-Phase-clause-refused : goal.returns-in-Err-Phase-clause-refused
returns-in-Err-Phase-clause-refused c = λ modules s is.
    no_bundle (elim c.in-Err-Phase.ensures.errors [ inl p ↦ c.in-Err-Phase.ensures.refused (ap Err p) | inr q ↦ absurd (phase-no-memory _ _ c.in-Err-Phase.field-0-is q) ])
