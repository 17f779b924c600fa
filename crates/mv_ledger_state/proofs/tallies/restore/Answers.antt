use Rattle.mv_ledger_state.proofs.Common.{[], ◌∙◌, ◌∷◌, ap, lists_of, map-append, map-set, slice_set, sym, unwrap_or, Global, List, Option, Tally, Vec}
use Rattle.mv_ledger_state.specs.Blocks.{but_last, tally_back}
use Rattle.mv_ledger_state.specs.declared.blocks.TallyBefore.{TallyBefore}
use Rattle.mv_ledger_state.proofs.Marks.{but_last-append, there-is}
use Rattle.mv_ledger_state.proofs.tallies.restore.Goals as goal

pub returns-in-Some : goal.returns-in-Some
returns-in-Some c =
    let us = c.pop.new.self.items in
    sym (but_last-append (lists_of us) c.in-Some._tallies.items)
    ∙ ap but_last (sym (ap lists_of c.in-Some.ensures.items ∙ map-append (λ (v : Vec Tally Global). v.items) us (c.in-Some._tallies ∷ [])))
    ∙ ap (λ (u : TallyBefore). tally_back u (lists_of c.args.modules.now.items)) (sym c.in-Added.is)

pub returns-in-Some-get_mut : goal.returns-in-Some-get_mut
returns-in-Some-get_mut c =
    map-set (λ (v : Vec Tally Global). v.items) c.args.modules.now.items c.in-Replaced.place c.in-Replaced.was
    ∙ ap (λ (u : TallyBefore). tally_back u (lists_of c.args.modules.now.items)) (sym c.in-Replaced.is)

pub returns-in-Some-get_mut-2 : goal.returns-in-Some-get_mut-2
returns-in-Some-get_mut-2 c =
    let vs = c.args.modules.now.items in
    let p = c.in-Counted.place in
    let there = there-is (λ (v : Vec Tally Global). v.items) vs p c.in-Some-get_mut-2.tallies.now c.in-Some-get_mut-2.ensures.item.3.0 c.in-Some-get_mut-2.ensures.value in
    map-set (λ (v : Vec Tally Global). v.items) vs p c.set_back.new.tallies
    ∙ ap (slice_set (lists_of vs) p) (c.set_back.ensures ∙ ap (λ (o : Option (List Tally)). slice_set (unwrap_or o []) c.in-Counted.index c.in-Counted.was) (sym there))
    ∙ ap (λ (u : TallyBefore). tally_back u (lists_of vs)) (sym c.in-Counted.is)
