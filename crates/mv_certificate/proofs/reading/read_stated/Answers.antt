use Rattle.mv_certificate.proofs.Common.{[], ◌++◌, ◌+◌, ◌∷◌, ◌≡◌, ◌≤◌, Err, None, ap, arith, inl, inr, length, map, subst, sym, common_steps, length-map, block_from}
use Rattle.mv_certificate.proofs.Loops.{StatedOn, StatedOn-start, StatedOn-next, StatedOn-end, StatedOn-breaks}
use Rattle.mv_certificate.proofs.reading.read_stated.Goals as goal

pub returns-in_err-one-clause-refused : goal.returns-in_err-one-clause-refused
returns-in_err-one-clause-refused c is =
    let none : block_from c.args.m.now c.args.d.now c.block-item.result.reached c.each.reader ≡ None = elim c.in_err-one.ensures.errors [ inl p ↦ c.in_err-one.ensures.refused (ap Err p) | inr q ↦ absurd (grind (arith, common_steps, q, is)) ] in
    StatedOn-breaks (λ b. b.reached) c.args.blocks.now c.block-item.result c.args.m.now c.args.d.now c.each.block-index c.args.reader.now c.each.stated.items c.each.reader
    (omega arith) c.block-item.is none c.each.invariant

pub each-preserved : goal.each-preserved
each-preserved c =
    let pushed : c.push.new.self.items ≡ c.each.stated.items ++ c.in_ok-one.one ∷ [] = grind (arith, common_steps) in
    subst (λ z. StatedOn c.args.m.now c.args.d.now (map (λ b. b.reached) c.args.blocks.now) (c.each.block-index + 1) c.args.reader.now z c.read_block.new.reader) (sym pushed)
    (StatedOn-next (λ b. b.reached) c.args.blocks.now c.block-item.result c.args.m.now c.args.d.now c.each.block-index c.args.reader.now c.each.stated.items c.each.reader c.read_block.new.reader c.in_ok-one.one
    (omega arith) c.block-item.is c.in_ok-one.ensures.ok c.each.invariant)

pub each-init : goal.each-init
each-init c =
    subst (λ z. StatedOn c.args.m.now c.args.d.now (map (λ b. b.reached) c.args.blocks.now) 0 c.args.reader.now z c.args.reader.now) (sym c.in_ok-stated.ensures.items)
    (StatedOn-start c.args.m.now c.args.d.now (map (λ b. b.reached) c.args.blocks.now) c.args.reader.now)

pub returns-clause-ok : goal.returns-clause-ok
returns-clause-ok c =
    let end : length (map (λ b. b.reached) c.args.blocks.now) ≤ c.each.block-index = omega (arith, length-map c.args.blocks.now (λ b. b.reached), c.each-test.false) in
    StatedOn-end c.args.m.now c.args.d.now (map (λ b. b.reached) c.args.blocks.now) c.each.block-index c.args.reader.now c.each.stated.items c.each.reader end c.each.invariant
