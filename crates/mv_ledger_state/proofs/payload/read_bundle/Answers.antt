use Rattle.mv_ledger_state.proofs.Common.{[], ◌∙◌, ◌≡◌, Err, None, Some, ap, arith, inl, inr, sym, true≢false, common_steps, all-bytes, offers_of, bundle_from}
use Rattle.mv_ledger_state.proofs.Shapes.{bundle-shaped, bundle-none, bundle-more}
use Rattle.mv_ledger_state.proofs.payload.read_bundle.Goals as goal

pub returns-in_err-offered-clause-refused : goal.returns-in_err-offered-clause-refused
returns-in_err-offered-clause-refused c is =
    let none : bundle_from c.new-reader.result ≡ None = elim c.in_err-offered.ensures.errors
    [ inl p ↦ c.in_err-offered.ensures.refused (ap Err p) | inr q ↦ absurd (grind (arith, common_steps, q, is)) ] in
    bundle-none c.args.payload.now (ap bundle_from (sym c.new-reader.ensures) ∙ none)

pub returns-then-is_empty-clause-ok : goal.returns-then-is_empty-clause-ok
returns-then-is_empty-clause-ok c =
    let whole : c.next_bundle.new.reader ≡ [] = c.is_empty.ensures.0 c.if-is_empty.true in
    bundle-shaped c.args.payload.now c.in_ok-offered.offered.sender (offers_of c.in_ok-offered.offered.offers.items)
    (all-bytes c.args.payload.now (λ i. omega (arith, c.type_inv.payload i)))
    (ap bundle_from (sym c.new-reader.ensures) ∙ c.in_ok-offered.ensures.ok ∙ ap (λ z. Some ((c.in_ok-offered.offered.sender, offers_of c.in_ok-offered.offered.offers.items), z)) whole)

pub returns-clause-refused : goal.returns-clause-refused
returns-clause-refused c is =
    bundle-more c.args.payload.now c.next_bundle.new.reader (c.in_ok-offered.offered.sender, offers_of c.in_ok-offered.offered.offers.items)
    (ap bundle_from (sym c.new-reader.ensures) ∙ c.in_ok-offered.ensures.ok)
    (λ e. true≢false (sym (c.is_empty.ensures.1 e) ∙ c.if-is_empty.false))
