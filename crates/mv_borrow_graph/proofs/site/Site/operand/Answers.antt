use Rattle.std.proofs.Common.{sym, ap, ◌∙◌, reverse, slice_get}
use Rattle.std.proofs.lemmas.List.{reverse-reverse}
use Rattle.mv_type_rules.specs.TypesHold.{Point}
use Rattle.mv_borrow_graph.proofs.site.Site.operand.Goals as goal

pub returns : goal.returns
returns c =
    c.token_at.ensures
    ∙ ap (λ i. slice_get c.self.inside.stack.now i) c.from.ensures
    ∙ ap (λ xs. slice_get xs c.args.place) (sym (reverse-reverse c.self.inside.stack.now) ∙ ap (λ (p : Point). reverse p.types) c.self.view_is)
