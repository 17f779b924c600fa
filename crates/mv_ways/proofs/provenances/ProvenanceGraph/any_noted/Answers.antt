use Rattle.mv_edges.proofs.Common.{◌∙◌, ◌≡◌, ap, arith, get_or, length, subst, sym, true, Slot}
use Rattle.mv_ways.specs.declared.provenances.Reference.{Reference}
use Rattle.mv_ways.proofs.ProvenanceGraph.Noted.{leads_there, none_there, one_there}
use Rattle.mv_ways.proofs.provenances.ProvenanceGraph.any_noted.Goals as goal

pub returns-then-is_passed : goal.returns-then-is_passed
returns-then-is_passed g c =
    let it = c.args.self.now in
    let from = g.P.NodeSet.test c.args.from.now in
    let to = g.Q.NodeSet.test c.args.to.now in
    let i = c.loop-r.r-index in
    let d : Reference = record { node = Slot 0; provenance = 0 } in
    let same = c.references-r-items.ensures.value in
    let long = ap length same in
    let test = c.loop-r-test.true in
    let passes : leads_there it from to c.args.position (get_or c.references-r-items.result.now i d) ≡ true = sym c.is_passed.ensures ∙ c.if-is_passed.true in
    one_there it from to c.args.position i d (omega (arith, long, test)) (subst (λ rs. leads_there it from to c.args.position (get_or rs i d) ≡ true) same passes)

pub returns : goal.returns
returns g c =
    let same = c.references-r-items.ensures.value in
    let long = ap length same in
    let test = c.loop-r-test.false in
    none_there c.args.self.now (g.P.NodeSet.test c.args.from.now) (g.Q.NodeSet.test c.args.to.now) c.args.position c.loop-r.r-index (omega (arith, long, test)) c.loop-r.invariant
