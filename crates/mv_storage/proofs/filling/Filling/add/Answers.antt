use Rattle.mv_storage.proofs.Common.{◌∙◌, ◌≡◌, ◌<◌, length, arith, Committed}
use Rattle.mv_storage.specs.Filling.{HoldsKept}
use Rattle.mv_storage.proofs.Pairs.{ArePairs-more, shown-more}
use Rattle.mv_storage.proofs.filling.Filling.add.Goals as goal

pub invariant_of-self-2 : goal.invariant_of-self-2
invariant_of-self-2 c =
    let pairs = c.self.inside.pairs.items in
    let slots = c.self.inside.slots.items in
    let place : c.len.result ≡ length slots = c.len.ensures ∙ c.in_ok-reserve-2.ensures.len ∙ c.self.inside.slots.ok.0 in
    let kept : HoldsKept c.kept.result = record { used = c.kept.ensures.used; kept = c.kept.ensures.kept; words = c.args.value; value = c.kept.ensures.value Committed } in
    let fits : c.args.key.place < 65536 = omega (arith, c) in
    rw (c.push_reserved.ensures.items, c.push_reserved-2.ensures.items, c.in_ok-reserve.ensures.items, c.in_ok-reserve-2.ensures.items)
    (ArePairs-more pairs slots c.args.key c.len.result c.kept.result c.self.invariant fits place kept)

pub returns-clause-ok : goal.returns-clause-ok
returns-clause-ok c =
    let pairs = c.self.inside.pairs.items in
    let slots = c.self.inside.slots.items in
    let place : c.len.result ≡ length slots = c.len.ensures ∙ c.in_ok-reserve-2.ensures.len ∙ c.self.inside.slots.ok.0 in
    rw (c.push_reserved.ensures.items, c.push_reserved-2.ensures.items, c.in_ok-reserve.ensures.items, c.in_ok-reserve-2.ensures.items, ← c.self.view_is)
    (shown-more pairs slots c.args.key c.len.result c.kept.result c.args.value c.self.invariant place (c.kept.ensures.value Committed))
