use Rattle.mv_type_rules.proofs.Common.{◌∙◌, ap, drop, reverse}
use Rattle.std.proofs.lemmas.List.{take_rest}
use Rattle.mv_type_rules.proofs.TopLemmas.{reverse-last_two}
use Rattle.mv_type_rules.proofs.stack_types.topmost.Goals as goal

pub returns : goal.returns
returns c =
    let stack = c.args.stack.now in
    ap reverse (take_rest stack c.saturating_sub.result) ∙ ap (λ n. reverse (drop n stack)) c.saturating_sub.ensures ∙ reverse-last_two stack
