use Rattle.mv_lines.proofs.Common.{◌++◌, ◌∙◌, ap, decimal, subst, sym, IsPlain}
use Rattle.mv_lines.proofs.Shows.Names.{plain-decimal}
use Rattle.mv_lines.proofs.json_counts.send_number.Goals as goal

pub as_str-requires : goal.as_str-requires
as_str-requires g c = subst IsPlain (sym (c.deref.ensures.value ∙ c.in-Ok.ensures ∙ ap (λ l. l ++ decimal c.args.n) c.clear.ensures.items)) (plain-decimal c.args.n)
