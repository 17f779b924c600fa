use Rattle.mv_saved_text.proofs.Common.{[], ◌+◌, ◌∙◌, ◌∷◌, ◌≤◌, List, ap, arith, length, subst, sym, map-append, Global, Vec, sections_of, Section}
use Rattle.mv_saved_text.proofs.Saves.Sections.{AreEmptyRows, empty-more, empty-all}
use Rattle.mv_saved_text.proofs.saving.empty_rows.Goals as goal

pub each-preserved : goal.each-preserved
each-preserved c =
    let row : Vec Section Global = c.in_ok-empty_row.field-0 in
    subst (λ (l : List (List Section)). AreEmptyRows c.args.layouts.now (c.each.place + 1) l)
    (sym (ap sections_of c.in_ok-push.ensures.items ∙ map-append (λ (r : Vec Section Global). r.items) c.each.rows.items (row ∷ [])))
    (empty-more c.args.layouts.now c.each.place (sections_of c.each.rows.items) row.items c.each.invariant c.in_ok-empty_row.ensures.structs c.in_ok-empty_row.ensures.empty)

pub returns : goal.returns
returns c =
    let all : length c.args.layouts.now ≤ c.each.place = omega (arith, c.len-place-end.ensures.count) in
    empty-all c.args.layouts.now c.each.place (sections_of c.each.rows.items) all c.each.invariant
