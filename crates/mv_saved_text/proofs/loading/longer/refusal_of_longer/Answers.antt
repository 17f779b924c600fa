use Rattle.mv_saved_text.proofs.Common.{◌∙◌, ap, arith, subst, sym, all-bytes, BeginsWith, head_from, head_of}
use Rattle.mv_ledger_state.specs.Unread.{IsUnread}
use Rattle.mv_saved_text.proofs.Loads.UnreadHead.{longer-head}
use Rattle.mv_saved_text.proofs.loading.longer.refusal_of_longer.Goals as goal

pub refusal_after-requires : goal.refusal_after-requires
refusal_after-requires c = (c.args.front.now, record { are = all-bytes c.args.front.now (λ i. omega (arith, c.type_inv.front i)); begins = ap head_from (sym c.new-reader.ensures) ∙ c.in-Ok.ensures.ok })

pub returns-in-Ok : goal.returns-in-Ok
returns-in-Ok c =
    let begun : BeginsWith c.args.front.now (head_of c.in-Ok.head)
    c.read_head.new.reader = record { are = all-bytes c.args.front.now (λ i. omega (arith, c.type_inv.front i)); begins = ap head_from (sym c.new-reader.ensures) ∙ c.in-Ok.ensures.ok } in
    c.refusal_after.ensures c.args.front.now begun

pub returns-in-Err : goal.returns-in-Err
returns-in-Err c =
    longer-head c.args.front.now c.refusal_by.result c.in-Err.unread c.refusal_by.ensures
    (subst (λ bytes. IsUnread head_from bytes c.in-Err.unread) c.new-reader.ensures c.in-Err.ensures.refused)
