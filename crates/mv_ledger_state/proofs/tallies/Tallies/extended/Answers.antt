use Rattle.mv_ledger_state.proofs.Common.{◌++◌, ◌∙◌, ◌≡◌, List, ap, append-nil, ap₂, length, map, sym, ℕ, fresh_tally, Tally}
use Rattle.std.proofs.lemmas.Iterator.{YieldsList-from_slice}
use Rattle.std.proofs.lemmas.Iterator.Adapters.{YieldsList-from_skip}
use Rattle.std.proofs.lemmas.Iterator.Consumers.{YieldsList-end}
use Rattle.std.specs.Iterator.Adapters.{skip_source, skip_count}
use Rattle.std.specs.Slice.Iter.{iter_rest}
use Rattle.mv_ledger_state.proofs.Bundles.Places.{had}
use Rattle.mv_ledger_state.proofs.Bundles.Placing.{extended-more}
use Rattle.mv_ledger_state.proofs.tallies.Tallies.extended.Goals as goal

pub loop-index-init : goal.loop-index-init
loop-index-init c = sym (append-nil c.extend_from_slice.new.self.items)

pub loop-index-preserved : goal.loop-index-preserved
loop-index-preserved c =
    extended-more c.extend_from_slice.new.self.items c.loop-index.tallies.items c.push.new.self.items c.args.place c.loop-index.yielded c.in-Some.index c.untouched.result c.loop-index.invariant
    c.in_ok-push.ensures.items c.untouched.ensures

pub returns : goal.returns
returns c =
    let gives = c.into_iter-index-iterator.ensures.into_iter_gives in
    let start : c.extend_from_slice.new.self.items ≡ had c.args.self.now c.args.place = c.in_ok-extend_from_slice.ensures.items
    ∙ ap₂ (λ (xs ys : List Tally). xs ++ ys) c.new-tallies.ensures.items c.at.ensures in
    let rest : iter_rest (skip_source c.into_iter-index-iterator.result) ≡ c.args.structs.now = ap (λ s. iter_rest (skip_source s)) gives ∙ ap iter_rest c.skip-index-items.ensures.source
    ∙ c.iter.ensures.rest in
    let count : skip_count c.into_iter-index-iterator.result ≡ length (had c.args.self.now c.args.place) = ap skip_count gives ∙ c.skip-index-items.ensures.count ∙ c.len.ensures
    ∙ c.extend_from_slice.new.self.ok.0 ∙ ap length start in
    let end = YieldsList-end (YieldsList-from_skip (length (had c.args.self.now c.args.place)) (YieldsList-from_slice c.args.structs.now rest) count) c.loop-index.yielded _ c.loop-index.yielded_by _ _
    c.in-None.is c.next.ensures.steps in
    c.loop-index.invariant ∙ ap₂ (λ (xs : List Tally) (ys : List ℕ). xs ++ map (fresh_tally c.args.place) ys) start end.0
