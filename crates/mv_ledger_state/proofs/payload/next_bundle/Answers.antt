use Rattle.mv_ledger_state.proofs.Common.{◌≡◌, ◌∙◌, sym, Phase, counted_from, offer_from}
use Rattle.mv_ledger_state.proofs.Unreading.{bundle-none, unread-none}
use Rattle.mv_ledger_state.proofs.payload.next_bundle.Goals as goal

pub returns-in-Err-clause-refused : goal.returns-in-Err-clause-refused
returns-in-Err-clause-refused c is =
    let refused : c.refusal.result ≡ Phase 2 = cc in
    bundle-none c.in_ok-sender.sender c.args.reader.now c.address.new.self c.in_ok-sender.ensures
    (unread-none (counted_from 16 offer_from) c.address.new.self c.in-Err.unread c.in-Err.ensures.refused (sym c.refusal.ensures ∙ refused))
