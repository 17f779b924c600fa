use Rattle.mv_edges.proofs.Common.{◌∙◌, edges_leq, false_from_ne_true, sym, true≢false}
use Rattle.mv_ways.specs.Provenances.{all_origins, reference_edges}
use Rattle.mv_ways.proofs.ProvenanceGraph.Under.{given_under, under_by_end}
use Rattle.mv_ways.proofs.provenances.ProvenanceGraph.is_reference_under.Goals as goal

pub returns-then-are_given_passed : goal.returns-then-are_given_passed
returns-then-are_given_passed c =
    let g = c.args.self.now in
    rw (c.node.ensures, c.provenance.ensures) at c.is_derived_under.ensures
    ∙ sym (under_by_end g c.args.reference c.args.others.now c.requires.earlier c.requires.inside (c.are_given_passed.ensures.0 c.if-are_given_passed.true))

pub returns-else-are_given_passed : goal.returns-else-are_given_passed
returns-else-are_given_passed c =
    let g = c.args.self.now in
    c.if-are_given_passed.false
    ∙ sym (false_from_ne_true (edges_leq (reference_edges g.sources (all_origins g.provenances) c.args.reference) c.args.others.now)
    (λ h. true≢false (sym (c.are_given_passed.ensures.1 (given_under g c.args.reference c.args.others.now c.requires.earlier c.requires.inside h)) ∙ c.if-are_given_passed.false)))
