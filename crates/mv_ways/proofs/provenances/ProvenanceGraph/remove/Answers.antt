use Rattle.mv_edges.proofs.Common.{with_items}
use Rattle.mv_ways.specs.Between.{but_at}
use Rattle.mv_ways.specs.Provenances.{ProvenanceGraph}
use Rattle.mv_ways.proofs.InPlace.{changed_in_place}
use Rattle.mv_ways.proofs.ProvenanceGraph.Kept.{gone_whole}
use Rattle.mv_ways.proofs.provenances.ProvenanceGraph.remove.Goals as goal

pub invariant_of-self : goal.invariant_of-self
invariant_of-self c =
    let inside : ProvenanceGraph = record { sources = c.self.inside.sources.items; provenances = c.self.inside.provenances.items; references = c.self.inside.references.items } in (
      gone_whole c.args.n inside (with_items c.self.inside.sources c.remove_sources.new.sources).items c.remove_references.new.references.items
          (changed_in_place (but_at c.args.n) c.self.inside.sources c.deref_mut.result.now c.remove_sources.new.sources c.remove_sources.ensures c.deref_mut.ensures.value)
          c.remove_references.ensures c.self.invariant.0,
      c.self.invariant.1,
    )
