use Rattle.std.proofs.Common.{◌-◌, ◌+◌, length, refl, ap, ◌∙◌}
use Rattle.std.proofs.lemmas.List.{length_push}
use Rattle.mv_cfg.proofs.Leads.{block-ends, leads-inside}
use Rattle.mv_cfg.proofs.Tables.{split_one}
use Rattle.mv_cfg.proofs.split.Goals as goal

pub overflow_sub-last : goal.overflow_sub-last
overflow_sub-last c = (block-ends c.args.code.now c.args.firsts.now c.loop-k.k c.end_of-last.result c.requires.firsts c.loop-k-test.true c.end_of-last.ensures).0

pub link-requires-clause-inside : goal.link-requires-clause-inside
link-requires-clause-inside c = (block-ends c.args.code.now c.args.firsts.now c.loop-k.k c.end_of-last.result c.requires.firsts c.loop-k-test.true c.end_of-last.ensures).1

pub link-requires-clause-next : goal.link-requires-clause-next
link-requires-clause-next c =
    leads-inside c.args.code.now c.args.firsts.now c.args.places.now c.loop-k.k c.end_of-last.result c.requires.ends c.requires.inside c.requires.firsts c.requires.places.size_is c.loop-k-test.true c.end_of-last.ensures

pub loop-k-preserved : goal.loop-k-preserved
loop-k-preserved c = record {
  count = ap length c.in_ok-push.ensures.items ∙ length_push c.loop-k.blocks.items _ ∙ ap (λ n. n + 1) c.loop-k.invariant.count;
  each = rw (c.in_ok-push.ensures.items) (split_one c.args.code.now c.args.firsts.now c.args.places.now c.loop-k.k c.loop-k.blocks.items _ c.loop-k.invariant.count c.loop-k.invariant.each (record {
    first = refl;
    last = ap (λ n. n - 1) c.end_of-last.ensures;
    successors = c.in_ok-successors.ensures;
  }));
}
