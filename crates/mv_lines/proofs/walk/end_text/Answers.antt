use Rattle.mv_lines.proofs.Common.{◌++◌, ◌∙◌, ap, codes, decimal}
use Rattle.mv_lines.proofs.walk.end_text.Goals as goal

pub returns : goal.returns
returns c = rw c.if-is_json.false (c.in_ok-put_labelled.ensures ∙ ap (λ l. l ++ (codes "end " ++ decimal c.from.result)) c.new-text.ensures.items ∙ ap (λ n. codes "end " ++ decimal n) c.from.ensures)
