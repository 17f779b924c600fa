use Rattle.mv_saved_text.proofs.Common.{subst, All, All-head, All-tail, AreLeaves, FlatEntry}
use Rattle.mv_saved_text.proofs.Saves.Steps.{page-more}
use Rattle.mv_saved_text.proofs.steps.page_text.Goals as goal

pub put_leaves-requires : goal.put_leaves-requires
put_leaves-requires c =
    let P : FlatEntry → Type 0 = λ e. AreLeaves c.args.kinds.now e.words in
    let e : FlatEntry = record { key = c.in-Some.key; words = c.in-Some.words.now } in
    All-head P e c.next.new.self.values (subst (All P) c.in-Some.ensures.values c.each.invariant.0)

pub each-preserved : goal.each-preserved
each-preserved c =
    let P : FlatEntry → Type 0 = λ e. AreLeaves c.args.kinds.now e.words in
    let e : FlatEntry = record { key = c.in-Some.key; words = c.in-Some.words.now } in (
      All-tail P e c.next.new.self.values (subst (All P) c.in-Some.ensures.values c.each.invariant.0),
      page-more c.args.kinds.now e c.each.page.values c.next.new.self.values c.each.text.items c.put_address.new.text.items c.put_leaves.new.text.items _ c.in-Some.ensures.values
          c.in_ok-put_address.ensures c.in_ok-put_leaves.ensures c.each.invariant.1,
    )
