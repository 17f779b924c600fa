use Rattle.mv_ledger_state.proofs.Common.{[], ◌∙◌, ◌≡◌, Err, None, Some, ap, arith, inl, inr, sym, true≢false, common_steps, all-bytes, request_of, run_from}
use Rattle.mv_ledger_state.proofs.Shapes.{run-shaped, run-none, run-more}
use Rattle.mv_ledger_state.proofs.payload.read_run.Goals as goal

pub returns-in_err-asked-clause-refused : goal.returns-in_err-asked-clause-refused
returns-in_err-asked-clause-refused c is =
    let none : run_from c.new-reader.result ≡ None = elim c.in_err-asked.ensures.errors [ inl p ↦ c.in_err-asked.ensures.refused (ap Err p) | inr q ↦ absurd (grind (arith, common_steps, q, is)) ] in
    run-none c.args.payload.now (ap run_from (sym c.new-reader.ensures) ∙ none)

pub returns-then-is_empty-clause-ok : goal.returns-then-is_empty-clause-ok
returns-then-is_empty-clause-ok c =
    let whole : c.next_run.new.reader ≡ [] = c.is_empty.ensures.0 c.if-is_empty.true in
    run-shaped c.args.payload.now (request_of c.in_ok-asked.asked)
    (all-bytes c.args.payload.now (λ i. omega (arith, c.type_inv.payload i)))
    (ap run_from (sym c.new-reader.ensures) ∙ c.in_ok-asked.ensures.ok ∙ ap (λ z. Some (request_of c.in_ok-asked.asked, z)) whole)

pub returns-clause-refused : goal.returns-clause-refused
returns-clause-refused c is =
    run-more c.args.payload.now c.next_run.new.reader (request_of c.in_ok-asked.asked)
    (ap run_from (sym c.new-reader.ensures) ∙ c.in_ok-asked.ensures.ok)
    (λ e. true≢false (sym (c.is_empty.ensures.1 e) ∙ c.if-is_empty.false))
