use Rattle.mv_edges.proofs.Common.{◌&&◌, ◌∙◌, ◌≡◌, ap, false, sym, true}
use Rattle.mv_ways.specs.Borrows.{are_related}
use Rattle.mv_ways.specs.declared.borrows.Relation.TheVariants.{Same}
use Rattle.mv_ways.proofs.States.{equal_lists}
use Rattle.mv_ways.proofs.borrows.BorrowsPartialEq.eq.Goals as goal

pub returns-then-is_within : goal.returns-then-is_within
returns-then-is_within c =
    let own = c.args.self.now in
    let its = c.args.other.now in
    let within : are_related Same own its ≡ true = sym c.is_within.ensures ∙ c.if-is_within.true in
    c.is_within-then-is_within.ensures ∙ ap (λ b. b && are_related Same its own) (sym within) ∙ equal_lists own its c.ascend.ensures c.ascend-in_default.ensures

pub returns-else-is_within : goal.returns-else-is_within
returns-else-is_within c =
    let own = c.args.self.now in
    let its = c.args.other.now in
    let without : are_related Same own its ≡ false = sym c.is_within.ensures ∙ c.if-is_within.false in
    c.if-is_within.false ∙ ap (λ b. b && are_related Same its own) (sym without) ∙ equal_lists own its c.ascend.ensures c.ascend-in_default.ensures
