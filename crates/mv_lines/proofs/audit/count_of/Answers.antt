use Rattle.mv_lines.proofs.Common.{◌∙◌, ap₂, subst, sym, unwrap_or}
use Rattle.mv_lines.proofs.Shows.Names.{IsPlainStruct, plain-tallied}
use Rattle.mv_lines.proofs.audit.count_of.Goals as goal

pub returns-clause-plain : goal.returns-clause-plain
returns-clause-plain c =
    subst IsPlainStruct (sym (c.unwrap_or.ensures ∙ ap₂ unwrap_or c.struct_name.ensures c.unnamed.ensures)) (plain-tallied c.args.store.now c.len-len.ensures.store c.args.tally.now)
