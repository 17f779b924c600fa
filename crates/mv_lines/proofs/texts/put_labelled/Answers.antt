use Rattle.mv_lines.proofs.Common.{◌++◌, ◌∙◌, ap, append_assoc, decimal, IfOk-equal}
use Rattle.mv_lines.proofs.texts.put_labelled.Goals as goal

pub returns : goal.returns
returns c =
    IfOk-equal c.put_number.result _ _ _ c.put_number.ensures
    (ap (λ l. l ++ decimal c.args.n) c.in_ok-extend_from_slice.ensures.items ∙ append_assoc c.args.text.now.items c.args.label.now (decimal c.args.n))
