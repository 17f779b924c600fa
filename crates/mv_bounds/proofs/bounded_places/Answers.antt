use Rattle.std.proofs.lemmas.Bool.{iff_false}
use Rattle.mv_bounds.specs.Answers.{out_of_bounds, ill_defined}
use Rattle.mv_bounds.proofs.bounded_places.Goals as goal

pub returns-then-not-in_bounds-clause-refused : goal.returns-then-not-in_bounds-clause-refused
returns-then-not-in_bounds-clause-refused c = out_of_bounds (iff_false c.in_bounds.ensures c.if-not-in_bounds.true)

pub returns-then-not-branch-clause-refused : goal.returns-then-not-branch-clause-refused
returns-then-not-branch-clause-refused c =
    ill_defined (c.in_bounds.ensures.0 c.if-not-in_bounds.false) (iff_false c.in_ok-well_defined.ensures c.if-not-branch.true)
