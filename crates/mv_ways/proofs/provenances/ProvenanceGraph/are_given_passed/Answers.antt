use Rattle.mv_edges.proofs.Common.{arith, refl}
use Rattle.mv_ways.proofs.provenances.ProvenanceGraph.are_given_passed.Goals as goal

pub returns-then-end-eq0 : goal.returns-then-end-eq0
returns-then-end-eq0 c =
    let none = c.if-end-eq0.true in (
      λ _ k given. let low = c.mark_given_to-end.ensures.before k (rw c.provenance.ensures given) in absurd (omega (arith, low, none)),
      λ _. refl,
    )

pub are_first_passed-requires-clause-before : goal.are_first_passed-requires-clause-before
are_first_passed-requires-clause-before c = λ k given. c.mark_given_to-end.ensures.before k (rw c.provenance.ensures given)
