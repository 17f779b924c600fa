use Rattle.mv_edges.proofs.Common.{◌<◌, ◌∙◌, ap, arith, length, sym, take_all}
use Rattle.mv_move_types.specs.Paths.{begins}
use Rattle.mv_ways.proofs.Told.{begins_more, not_begins}
use Rattle.mv_ways.proofs.provenances.told.Told.begins.Goals as goal

pub loop-place-preserved : goal.loop-place-preserved
loop-place-preserved c =
    let xs = c.args.self.now.label.path in
    let inside : c.loop-place.place < length xs = omega arith in
    begins_more xs c.args.other.now.label.path c.loop-place.place inside c.loop-place.invariant (sym c.agrees_at.ensures ∙ c.if-not-agrees_at.false)

pub returns-then-not-agrees_at : goal.returns-then-not-agrees_at
returns-then-not-agrees_at c =
    let xs = c.args.self.now.label.path in
    let inside : c.loop-place.place < length xs = omega arith in
    sym (not_begins xs c.args.other.now.label.path c.loop-place.place inside (sym c.agrees_at.ensures ∙ c.if-not-agrees_at.true))

pub returns : goal.returns
returns c =
    let xs = c.args.self.now.label.path in
    sym (ap (λ zs. begins zs c.args.other.now.label.path) (sym (take_all c.loop-place.place xs (omega arith))) ∙ c.loop-place.invariant)
