use Rattle.mv_bounds.proofs.Common.{◌∙◌, ap, eqb, length, sym}
use Rattle.std.specs.Ordering.{eq_by_cmp}
use Rattle.std.proofs.lemmas.Map.Views.{btree_set_len-from_list}
use Rattle.mv_bounds.proofs.Distinct.{all_differ_by_count, all_differ_alike}
use Rattle.mv_bounds.proofs.duplicates.differ_as_set.Goals as goal

pub returns : goal.returns
returns g c =
    let items = c.args.items.now in
    let cmp = g.K.Ord.cmp in
    ap (λ n. eqb n (length items)) (c.len.ensures.len ∙ btree_set_len-from_list g.met.K.Ord.total items c.in_ok-seen.seen c.in_ok-seen.ensures)
    ∙ all_differ_by_count (eq_by_cmp cmp) items
    ∙ all_differ_alike (eq_by_cmp cmp) g.K.PartialEq.eq items (λ x y. sym (g.met.K.Ord.matches_eq x y))
