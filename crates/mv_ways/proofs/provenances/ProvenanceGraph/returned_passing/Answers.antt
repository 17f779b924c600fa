use Rattle.mv_edges.proofs.Common.{◌≡◌, flat_map, get_or, opened, subst, take_all}
use Rattle.mv_ways.specs.Provenances.{all_origins, changed_origins, origins_at}
use Rattle.mv_ways.specs.Asking.{SaysOf, larger}
use Rattle.mv_ways.specs.declared.provenances.questions.Passing.TheVariants.{Never}
use Rattle.mv_ways.proofs.ProvenanceGraph.Passes.{below_at, returned_more}
use Rattle.mv_ways.proofs.provenances.ProvenanceGraph.returned_passing.Goals as goal

pub loop-over-preserved : goal.loop-over-preserved
loop-over-preserved g c =
    let provenances = c.args.provenances.now in
    let i = c.loop-over.over-index in
    let over = get_or provenances i 0 in
    returned_more c.args.self.now.sources (g.P.NodeSet.test c.args.from.now) c.args.position (all_origins c.args.self.now.provenances) c.loop-over.passing (get_or c.args.noted.now over Never)
    c.larger-passing.result provenances i c.loop-over-test.true c.loop-over.invariant (c.requires.noted over Never (below_at provenances c.args.place i c.requires.below c.loop-over-test.true))
    (subst (λ p. c.larger-passing.result ≡ larger c.loop-over.passing p) c.opened.ensures c.larger-passing.ensures)

pub returns : goal.returns
returns g c =
    subst (λ ks. SaysOf c.args.self.now.sources (g.P.NodeSet.test c.args.from.now) c.args.position c.loop-over.passing (flat_map (λ k. changed_origins opened (origins_at (all_origins c.args.self.now.provenances) k)) ks))
    (take_all c.loop-over.over-index c.args.provenances.now c.loop-over-test.false) c.loop-over.invariant
