use Rattle.mv_edges.proofs.Common.{◌∙◌, sym}
use Rattle.mv_ways.specs.declared.provenances.Provenance.TheVariants.{Returned}
use Rattle.mv_ways.proofs.ProvenanceGraph.Kept.{more_provenances}
use Rattle.mv_ways.proofs.ProvenanceGraph.Tying.{given_again, given_pushed}
use Rattle.mv_ways.proofs.provenances.ProvenanceGraph.returned.Goals as goal

pub returns-in-Some-clause-given : goal.returns-in-Some-clause-given
returns-in-Some-clause-given c =
    given_again c.args.self.now c.args.givers.now c.in-Some.provenance c.in_ok-provenances.provenances.items c.in_ok-provenances.ensures.provenances (sym c.deref.ensures.value ∙ c.in-Some.ensures.only) c.in-Some.ensures.below c.in-Some.ensures.opened

pub returns-in_ok-provenance-in-None-clause-more : goal.returns-in_ok-provenance-in-None-clause-more
returns-in_ok-provenance-in-None-clause-more c = more_provenances (Returned c.in_ok-provenances.provenances) c.args.self.now c.push_provenance.new.self c.in_ok-provenance-in-None.ensures.pushed

pub returns-in_ok-provenance-in-None-clause-given : goal.returns-in_ok-provenance-in-None-clause-given
returns-in_ok-provenance-in-None-clause-given c =
    given_pushed c.args.self.now c.push_provenance.new.self c.args.givers.now c.in_ok-provenance-in-None.provenance c.in_ok-provenances.provenances c.in_ok-provenances.ensures.provenances c.in_ok-provenance-in-None.ensures.place c.in_ok-provenance-in-None.ensures.pushed
