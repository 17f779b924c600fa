use Rattle.mv_certificate.proofs.Holds.{start_known_at}
use Rattle.mv_certificate.proofs.shape.has_start.Goals as goal

pub returns : goal.returns
returns c =
    start_known_at c.args.m.now c.bounded-bounded.result.now c.args.f c.args.function.now c.parameters-parameters.result.now c.other_locals-others.result.now
    c.bounded-bounded.ensures.value c.requires.known c.parameters-parameters.ensures c.other_locals-others.ensures
