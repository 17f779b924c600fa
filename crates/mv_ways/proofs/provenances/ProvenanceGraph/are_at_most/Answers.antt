use Rattle.mv_edges.proofs.Common.{◌∙◌, arith, sorted, sym}
use Rattle.mv_edges.proofs.Sorting.{ascending-sorted}
use Rattle.mv_ways.specs.Provenances.{edges_of}
use Rattle.mv_ways.proofs.ProvenanceGraph.Counting.{behind_more, behind_none, no_more}
use Rattle.mv_ways.proofs.provenances.ProvenanceGraph.are_at_most.Goals as goal

pub loop-count-init : goal.loop-count-init
loop-count-init c = record { within = omega arith; behind = behind_none (sorted (edges_of c.args.self.now)) }

pub loop-count-preserved : goal.loop-count-preserved
loop-count-preserved c =
    let es = sorted (edges_of c.args.self.now) in
    let inv = c.loop-count.invariant in
    record {
      within = omega arith;
      behind = behind_more es c.loop-count.count c.loop-count.last c.in-Some.next (ascending-sorted (edges_of c.args.self.now)) inv.behind (sym c.next.ensures ∙ c.in-Some.is);
    }

pub returns-in-None : goal.returns-in-None
returns-in-None c =
    let es = sorted (edges_of c.args.self.now) in
    let inv = c.loop-count.invariant in
    sym (no_more es c.loop-count.count c.args.most c.loop-count.last c.next-2.result inv.behind c.next-2.ensures c.in-None.is inv.within)
