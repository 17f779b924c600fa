use Rattle.mv_ledger_state.proofs.Common.{◌+◌, ◌∙◌, ◌≡◌, Bool, ap, cond, sym, is_none, New}
use Rattle.mv_ledger_state.proofs.Bundles.Placing.{placing-more, placing-low, none-so}
use Rattle.mv_ledger_state.proofs.published.placed.Goals as goal
use Rattle.mv_ledger_state.proofs.published.placed.Goals.{then-is_none, else-is_none}

pub extended-requires : goal.extended-requires
extended-requires c =
    placing-low c.args.store.now c.args.tallies.now c.args.news.now c.each.new-index c.each.all.items c.each.next c.module-module.result.now c.place_of-found.result c.each.invariant c.each-test.true
    c.requires.few c.place_of-found.ensures c.unwrap_or-place.result c.unwrap_or-place.ensures

pub each-preserved : goal.each-preserved
each-preserved c =
    let next : c.if-is_none.next ≡ cond (is_none c.place_of-found.result) (c.each.next + 1) c.each.next =
    elim c.if-is_none.branch [
      | then-is_none w ↦ w.next-is ∙ ap (λ (b : Bool). cond b (c.each.next + 1) c.each.next) (sym w.if-is_none.true ∙ none-so c.place_of-found.result c.is_none.result c.is_none.ensures)
      | else-is_none w ↦ w.next-is ∙ ap (λ (b : Bool). cond b (c.each.next + 1) c.each.next) (sym w.if-is_none.false ∙ none-so c.place_of-found.result c.is_none.result c.is_none.ensures)
    ] in
    placing-more c.args.store.now c.args.tallies.now c.args.news.now c.each.new-index c.each.all.items c.each.next c.module-module.result.now c.place_of-found.result
    c.new-item.result c.push.new.self.items (record { place = c.unwrap_or-place.result; tallies = c.in_ok-extended.field-0 }) c.deref.result.now
    c.each.invariant c.each-test.true (c.module-module.ensures.value ∙ ap (λ (n : New). n.module) c.new-item.is) c.place_of-found.ensures c.unwrap_or-place.ensures
    c.in_ok-extended.ensures (c.deref.ensures.value ∙ c.in_ok-structs.ensures) c.in_ok-push.ensures.items c.if-is_none.next next
