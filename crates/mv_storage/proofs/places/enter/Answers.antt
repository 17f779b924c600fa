use Rattle.mv_storage.proofs.Common.{◌∙◌, ◌≡◌, Some, ap, cond, sym, get, key_cmp}
use Rattle.std.specs.BTreeMap.Entry.{map_with_value, entry_map_ref}
use Rattle.std.specs.declared.collections.btree_map.Entry.TheVariants.{Vacant}
use Rattle.mv_storage.proofs.Steps.{at-same}
use Rattle.mv_storage.proofs.places.enter.Goals as goal

pub returns-in-Vacant-clause-has : goal.returns-in-Vacant-clause-has
returns-in-Vacant-clause-has c q =
    let n = c.tree-in-Vacant-2-1.given.0 in
    let m = c.args.tree.now in
    let name = sym c.in_ok-entry.ensures.same_map ∙ ap (λ e. (entry_map_ref e).ghost_name) c.in-Vacant.is in
    let same : n ≡ map_with_value c.in_ok-entry.field-0 c.args.place = c.tree-in-Vacant-2-1.given.1 name ∙ ap (map_with_value (Vacant c.in-Vacant.entry)) c.insert.ensures.value ∙ ap (λ e. map_with_value e c.args.place) (sym c.in-Vacant.is) in
    let update = c.in_ok-entry.ensures.update in
    ap (λ x. get key_cmp x q) same ∙ (update.0 c.args.place).0 q ∙ ap (λ b. cond b (Some c.args.place) (get key_cmp m q)) (at-same c.args.key q)
