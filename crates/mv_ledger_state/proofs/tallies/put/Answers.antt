use Rattle.mv_ledger_state.proofs.Common.{[], ◌∙◌, ◌∷◌, ap, lists_of, map-append, map-set, slice_set, sym, with_at, Global, List, Tally, Vec}
use Rattle.mv_ledger_state.specs.Blocks.{but_last}
use Rattle.mv_ledger_state.proofs.Bundles.Placing.{set-there, push-last}
use Rattle.mv_ledger_state.proofs.Marks.{but_last-append, set-back}
use Rattle.mv_ledger_state.proofs.tallies.put.Goals as goal

pub returns-in-Some-clause-lists : goal.returns-in-Some-clause-lists
returns-in-Some-clause-lists c =
    set-there c.args.modules.now.items c.args.one.place c.replace.new.dest c.in-Some.ensures.item.3.0
    ∙ ap (λ (v : Vec Tally Global). with_at c.args.one.place v.items (lists_of c.args.modules.now.items)) c.replace.ensures.after

pub returns-in-Some-clause-back : goal.returns-in-Some-clause-back
returns-in-Some-clause-back c =
    let vs = c.args.modules.now.items in
    let p = c.args.one.place in
    let d = c.replace.new.dest in
    sym (map-set (λ (v : Vec Tally Global). v.items) (slice_set vs p d) p c.replace.result)
    ∙ ap lists_of (ap (slice_set (slice_set vs p d) p) (c.replace.ensures.value ∙ c.in-Some.ensures.value) ∙ set-back vs p d c.in-Some.tallies.now c.in-Some.ensures.item.3.0)

pub returns-in-None-clause-lists : goal.returns-in-None-clause-lists
returns-in-None-clause-lists c = push-last c.args.modules.now.items c.push_reserved.new.self.items c.args.one.place c.args.one.tallies c.in-None.ensures.item.3 c.push_reserved.ensures.items

pub returns-in-None-clause-back : goal.returns-in-None-clause-back
returns-in-None-clause-back c =
    let vs = c.args.modules.now.items in
    ap (λ (us : List (Vec Tally Global)). but_last (lists_of us)) c.push_reserved.ensures.items
    ∙ ap but_last (map-append (λ (v : Vec Tally Global). v.items) vs (c.args.one.tallies ∷ [])) ∙ but_last-append (lists_of vs) c.args.one.tallies.items
