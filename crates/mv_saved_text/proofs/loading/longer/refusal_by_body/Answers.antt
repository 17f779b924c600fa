use Rattle.mv_saved_text.proofs.Common.{◌∙◌, ap, map, subst, sym, counts_of, head_of, offers_of, AllPass, PublishedView, all_of}
use Rattle.mv_saved_text.proofs.Loads.BodyLaws.{each_body_is_read}
use Rattle.mv_saved_text.proofs.Loads.Longer.{longer-read, longer-found}
use Rattle.mv_ledger_state.proofs.Marks.{none-held-still}
use Rattle.mv_saved_text.proofs.Loads.LoadedTallies.{read-held}
use Rattle.mv_saved_text.proofs.loading.longer.refusal_by_body.Goals as goal

pub returns-in-Ok : goal.returns-in-Ok
returns-in-Ok c = λ bytes begun.
    let passed = subst (λ (p : PublishedView). AllPass (offers_of c.args.head.now.offers.items) p.modules) (sym c.joined.view_is) c.requires.passed in
    longer-read bytes (head_of c.args.head.now) c.args.reader.now begun.are begun.begins c.joined.inside.store c.joined.inside.tallies passed c.joined.invariant.0 each_body_is_read
    (map counts_of (all_of c.read_body.new.tallies), c.in-Ok._storage.committed) c.in-Ok.ensures.ok

pub returns : goal.returns
returns c = λ bytes begun.
    let passed = subst (λ (p : PublishedView). AllPass (offers_of c.args.head.now.offers.items) p.modules) (sym c.joined.view_is) c.requires.passed in
    longer-found bytes (head_of c.args.head.now) c.args.reader.now begun.are begun.begins c.joined.inside.store c.joined.inside.tallies passed c.joined.invariant.0 each_body_is_read
    c.refusal_by.result c.in-Err.unread c.refusal_by.ensures c.in-Err.ensures.refused

pub invariant_of-joined : goal.invariant_of-joined
invariant_of-joined c =
    let none = ap (λ (p : PublishedView). p.marks) c.joined.view_is ∙ c.requires.marks in
    (read-held _ _ c.joined.invariant.0 _ c.read_body.ensures.kept, none-held-still c.joined.inside.blocks _ _ _ c.joined.invariant.1 none)

pub invariant_of-joined-2 : goal.invariant_of-joined-2
invariant_of-joined-2 c =
    let none = ap (λ (p : PublishedView). p.marks) c.joined.view_is ∙ c.requires.marks in
    (read-held _ _ c.joined.invariant.0 _ c.read_body.ensures.kept, none-held-still c.joined.inside.blocks _ _ _ c.joined.invariant.1 none)
