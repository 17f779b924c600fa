use Rattle.mv_saved_text.proofs.Common.{◌∙◌, ap, arith, subst, sym, all-bytes, BeginsWith, head_from, head_of}
use Rattle.mv_ledger_state.specs.Unread.{IsUnread}
use Rattle.mv_saved_text.proofs.Loads.UnreadHead.{unread-head}
use Rattle.mv_saved_text.proofs.loading.load.Goals as goal

pub returns-in-Err-clause-refused : goal.returns-in-Err-clause-refused
returns-in-Err-clause-refused c =
    unread-head c.args.bytes.now c.in-Err.error c.unread.result c.unread.ensures
    (subst (λ bytes. IsUnread head_from bytes c.in-Err.error) c.new-reader.ensures c.in-Err.ensures.refused)

pub load_after-requires : goal.load_after-requires
load_after-requires c = (c.args.bytes.now, record { are = all-bytes c.args.bytes.now (λ i. omega (arith, c.type_inv.bytes i)); begins = ap head_from (sym c.new-reader.ensures) ∙ c.in-Ok.ensures.ok })

pub returns-in-Ok-clause-loaded : goal.returns-in-Ok-clause-loaded
returns-in-Ok-clause-loaded c =
    let begun : BeginsWith c.args.bytes.now (head_of c.in-Ok.head)
    c.read_head.new.reader = record { are = all-bytes c.args.bytes.now (λ i. omega (arith, c.type_inv.bytes i)); begins = ap head_from (sym c.new-reader.ensures) ∙ c.in-Ok.ensures.ok } in
    c.load_after.ensures.loaded c.args.bytes.now begun

pub returns-in-Ok-clause-refused : goal.returns-in-Ok-clause-refused
returns-in-Ok-clause-refused c =
    let begun : BeginsWith c.args.bytes.now (head_of c.in-Ok.head)
    c.read_head.new.reader = record { are = all-bytes c.args.bytes.now (λ i. omega (arith, c.type_inv.bytes i)); begins = ap head_from (sym c.new-reader.ensures) ∙ c.in-Ok.ensures.ok } in
    c.load_after.ensures.refused c.args.bytes.now begun

pub returns-in-Ok-clause-whole : goal.returns-in-Ok-clause-whole
returns-in-Ok-clause-whole c = c.load_after.ensures.whole
