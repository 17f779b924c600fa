use Rattle.std.proofs.Common.{◌≡◌, ◌<◌, ◌+◌, ◌==◌, ◌||◌, sym, ap, ◌∙◌, ◌-◌, length, get_or, arith}
use Rattle.mv_acquires.proofs.Distinct.{differ-not, differ-more, members-more}
use Rattle.mv_acquires.proofs.is_distinct.Goals as goal

pub returns-then-is_member : goal.returns-then-is_member
returns-then-is_member c =
    let number = get_or c.args.numbers.now (c.loop-left.left - 1) 0 in
    sym (differ-not c.args.numbers.now (c.loop-left.left - 1) c.loop-left.left (omega (arith, c.loop-left-test.true)) (omega (arith, c.loop-left-test.true, c.loop-left.invariant.within))
    (sym (c.loop-left.invariant.exact number) ∙ sym c.is_member.ensures ∙ c.if-is_member.true))

pub loop-left-preserved : goal.loop-left-preserved
loop-left-preserved c =
    let numbers = c.args.numbers.now in
    let at = c.loop-left.left - 1 in
    let next : c.loop-left.left ≡ at + 1 = omega (arith, c.loop-left-test.true) in
    let low : at < length numbers = omega (arith, c.loop-left-test.true, c.loop-left.invariant.within) in
    let number = get_or numbers at 0 in
    record {
      within = omega (arith, c.loop-left.invariant.within);
      differ = differ-more numbers at c.loop-left.left next low (sym (c.loop-left.invariant.exact number) ∙ sym c.is_member.ensures ∙ c.if-is_member.false) c.loop-left.invariant.differ;
      exact = λ y. c.in_ok-mark.ensures y ∙ ap (λ b. b || number == y) (c.loop-left.invariant.exact y) ∙ members-more numbers at c.loop-left.left next low y;
    }
