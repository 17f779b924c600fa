use Rattle.mv_type_states.proofs.Common.{subst, Module}
use Rattle.mv_bound_rules.specs.Bounds.{InBounds}
use Rattle.mv_bound_rules.specs.Definitions.{WellDefined}
use Rattle.mv_type_rules.proofs.Functions.{FlowHolds-from_AreGraphs}
use Rattle.mv_type_states.proofs.check.Goals as goal

pub new-requires-clause-sound : goal.new-requires-clause-sound
new-requires-clause-sound c =
    let found = c.in_ok-graphs.ensures in
    record {
      bounds = subst (λ (m : Module). InBounds m) c.m.view_is c.m.invariant.bounds;
      defined = subst (λ (m : Module). WellDefined m) c.m.view_is c.m.invariant.definitions;
      signed = found.signed;
      abilities = found.abilities;
      flow = FlowHolds-from_AreGraphs c.args.m _ found.graphs;
      types = found.types;
    }
