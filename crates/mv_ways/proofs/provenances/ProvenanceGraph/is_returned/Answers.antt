use Rattle.mv_edges.proofs.Common.{◌∙◌, ap, get_or}
use Rattle.mv_ways.proofs.ProvenanceGraph.Kept.{returned_fields, returned_opened}
use Rattle.mv_ways.proofs.provenances.ProvenanceGraph.is_returned.Goals as goal

pub returns-in-Returned-clause-fields : goal.returns-in-Returned-clause-fields
returns-in-Returned-clause-fields c = λ yes f.
    let provenance = c.index-provenances-place.result in
    returned_fields c.args.self.now.provenances c.args.place provenance c.in-Returned.field-0 c.provenances.ensures.earlier c.requires
    (c.index-provenances-place.is ∙ ap (λ ws. get_or ws c.args.place provenance) c.provenances.ensures.value) c.in-Returned.is f

pub returns-in-Returned-clause-opened : goal.returns-in-Returned-clause-opened
returns-in-Returned-clause-opened c = λ yes.
    let provenance = c.index-provenances-place.result in
    returned_opened c.args.self.now.provenances c.args.place provenance c.in-Returned.field-0 c.provenances.ensures.earlier c.requires
    (c.index-provenances-place.is ∙ ap (λ ws. get_or ws c.args.place provenance) c.provenances.ensures.value) c.in-Returned.is
