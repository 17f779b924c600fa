use Rattle.std.proofs.Common.{IfOk, subst, sym}
use Rattle.moveledger_c.specs.Records.{IsAsked}
use Rattle.moveledger_c.proofs.Fronts.{neither}
use Rattle.moveledger_c.proofs.records.asked.Goals as goal

pub returns-then-kind-eq-PUBLISH : goal.returns-then-kind-eq-PUBLISH
returns-then-kind-eq-PUBLISH c = subst (λ k. IfOk c.asked_of_bundle.result (IsAsked k c.args.payload.now)) (sym c.if-kind-eq-PUBLISH.true) c.asked_of_bundle.ensures

pub returns-then-kind-eq-RUN : goal.returns-then-kind-eq-RUN
returns-then-kind-eq-RUN c = subst (λ k. IfOk c.asked_of_run.result (IsAsked k c.args.payload.now)) (sym c.if-kind-eq-RUN.true) c.asked_of_run.ensures

pub returns : goal.returns
returns c = neither c.args.kind c.args.payload.now c.if-kind-eq-PUBLISH.false c.if-kind-eq-RUN.false
