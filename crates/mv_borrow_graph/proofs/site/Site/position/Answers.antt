use Rattle.std.proofs.Common.{◌<◌, ap, arith}
use Rattle.mv_type_rules.specs.TypesHold.{Point}
use Rattle.mv_borrow_graph.proofs.Tables.{small_position}
use Rattle.mv_borrow_graph.proofs.site.Site.position.Goals as goal

pub overflow_cast-result : goal.overflow_cast-result
overflow_cast-result c =
    let small : c.in-Some.handle.position < 256 =
    small_position c.args.self.now c.self.inside.scope.now.module.now c.module-module.result.now c.args.field c.field_handle.result c.in-Some.handle
    (ap (λ (p : Point). p.home) c.self.view_is) c.module-module.ensures.value c.module-module.ensures.bounds c.structs-structs.ensures.fits c.field_handle.ensures c.in-Some.is in
    omega (arith, small)
