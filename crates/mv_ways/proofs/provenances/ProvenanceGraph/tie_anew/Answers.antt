use Rattle.mv_edges.proofs.Common.{◌∙◌, ap, length, on_ok_weaker}
use Rattle.std.proofs.lemmas.List.{length-map}
use Rattle.mv_ways.specs.Provenances.{edges_of}
use Rattle.mv_ways.proofs.ProvenanceGraph.Stating.{given_to, tied_anew}
use Rattle.mv_ways.proofs.provenances.ProvenanceGraph.tie_anew.Goals as goal

pub state_each-requires : goal.state_each-requires
state_each-requires c = ap length (c.deref.ensures.value ∙ c.in_ok-given.ensures) ∙ length-map c.args.reborrows.now (given_to (edges_of c.args.self.now))

pub returns : goal.returns
returns c =
    on_ok_weaker c.state_each.result
    (tied_anew c.args.taken.now c.args.reborrows.now c.args.self.now c.remove_each.new.self c.state_each.new.self c.deref.result.now (c.deref.ensures.value ∙ c.in_ok-given.ensures) c.remove_each.ensures)
    c.state_each.ensures
