use Rattle.mv_interface.proofs.Common.{[], ◌++◌, ◌+◌, ◌∙◌, ◌∷◌, ap, arith, length, length_push, sym, take_all}
use Rattle.mv_interface.proofs.FewIdentifiers.{few_identifiers}
use Rattle.mv_bound_rules.proofs.Found.{taken-more}
use Rattle.mv_interface.proofs.outline.identifiers_of.Goals as goal

pub identifier_in-requires : goal.identifier_in-requires
identifier_in-requires c = omega (arith, c.loop-i-test.true, c.identifier_count-count.ensures)

pub push-requires-clause-few : goal.push-requires-clause-few
push-requires-clause-few c =
    let few = few_identifiers c.args.m.now c.has_text.ensures in
    omega (arith, few, c.loop-i-test.true, c.identifier_count-count.ensures, c.loop-i.invariant.count)

pub loop-i-init : goal.loop-i-init
loop-i-init c = record { so_far = c.in_ok-identifiers.ensures; count = ap length c.in_ok-identifiers.ensures }

pub loop-i-preserved : goal.loop-i-preserved
loop-i-preserved c =
    let one = c.identifier_in.result.now in
    record {
      so_far = c.in_ok-push.ensures ∙ ap (λ l. l ++ one ∷ []) c.loop-i.invariant.so_far ∙ sym (taken-more c.args.m.now.identifiers c.loop-i.i one c.identifier_in.ensures.value);
      count = ap length c.in_ok-push.ensures ∙ length_push c.loop-i.identifiers one ∙ ap (λ n. n + 1) c.loop-i.invariant.count;
    }

pub returns : goal.returns
returns c = c.loop-i.invariant.so_far ∙ take_all c.loop-i.i c.args.m.now.identifiers (omega (arith, c.loop-i-test.false, c.identifier_count-count.ensures))
