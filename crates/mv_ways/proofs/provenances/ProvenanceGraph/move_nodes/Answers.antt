use Rattle.mv_edges.proofs.Common.{option_map, with_items, renamed_node}
use Rattle.mv_ways.specs.Provenances.{ProvenanceGraph, moved_reference}
use Rattle.mv_ways.proofs.InPlace.{changed_in_place}
use Rattle.mv_ways.proofs.ProvenanceGraph.Kept.{moved_whole}
use Rattle.mv_ways.proofs.provenances.ProvenanceGraph.move_nodes.Goals as goal

pub invariant_of-self : goal.invariant_of-self
invariant_of-self c =
    let inside : ProvenanceGraph = record { sources = c.self.inside.sources.items; provenances = c.self.inside.provenances.items; references = c.self.inside.references.items } in (
      moved_whole c.args.old c.args.new inside (with_items c.self.inside.sources c.rename_sources.new.sources).items (with_items c.self.inside.references c.rename_references.new.references).items
          (changed_in_place (option_map (renamed_node c.args.old c.args.new)) c.self.inside.sources c.deref_mut.result.now c.rename_sources.new.sources c.rename_sources.ensures c.deref_mut.ensures.value)
          (changed_in_place (moved_reference c.args.old c.args.new) c.self.inside.references c.deref_mut-2.result.now c.rename_references.new.references
          c.rename_references.ensures c.deref_mut-2.ensures.value) c.self.invariant.0,
      c.self.invariant.1,
    )
