use Rattle.mv_saved_text.proofs.Common.{ap, arith, length, length-map, PublishedModule}
use Rattle.mv_saved_text.proofs.layouts.Layouts.len.Goals as goal

pub returns : goal.returns
returns c =
    let tables = length-map c.self.inside.store.now (λ (p : PublishedModule). p.tables) in
    let whole = ap length c.self.view_is in
    record { count = omega (arith, tables, whole, c.len.ensures.count); store = (c.self.inside.store.now, c.len.ensures.store, c.self.view_is) }
