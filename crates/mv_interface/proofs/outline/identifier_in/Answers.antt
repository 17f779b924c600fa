use Rattle.mv_interface.proofs.Common.{◌∙◌, none-some, sym}
use Rattle.mv_interface.proofs.FewIdentifiers.{short-identifier}
use Rattle.mv_bound_rules.proofs.Entries.{element_at}
use Rattle.mv_interface.proofs.outline.identifier_in.Goals as goal

pub returns-in-Some-clause-short : goal.returns-in-Some-clause-short
returns-in-Some-clause-short c = short-identifier c.args.m.now c.has_text.ensures c.args.index c.in-Some.name.now (sym c.in-Some.ensures)

pub returns-in-None : goal.returns-in-None
returns-in-None c = let x = element_at c.args.m.now.identifiers c.args.index c.requires in absurd (none-some x.0 (c.in-None.ensures ∙ x.1))
