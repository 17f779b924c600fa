use Rattle.mv_bounds.proofs.Common.{◌∙◌, sym, list_all, token_in}
use Rattle.mv_bound_rules.proofs.Entries.{all_pass_more, all_pass_not}
use Rattle.mv_bounds.proofs.indices.signatures_in.Goals as goal

pub returns-then-not-tokens_in : goal.returns-then-not-tokens_in
returns-then-not-tokens_in c =
    sym (all_pass_not (list_all (token_in c.args.m.now)) c.args.m.now.signatures c.loop-i.i c.in-Some.tokens.now c.in-Some.ensures.value (sym c.tokens_in.ensures ∙ c.if-not-tokens_in.true))

pub loop-i-preserved : goal.loop-i-preserved
loop-i-preserved c =
    all_pass_more (list_all (token_in c.args.m.now)) c.args.m.now.signatures c.loop-i.i c.in-Some.tokens.now c.in-Some.ensures.value c.loop-i.invariant (sym c.tokens_in.ensures ∙ c.if-not-tokens_in.false)
