use Rattle.mv_lines.proofs.Common.{◌++◌, ◌∙◌, IfOk-weaker, List, Tallied, ap, codes, count_object, stored_of, ℕ}
use Rattle.mv_lines.proofs.walk.text_of.Goals as goal

pub returns-in_ok-counts_in_json-in-Count : goal.returns-in_ok-counts_in_json-in-Count
returns-in_ok-counts_in_json-in-Count c =
    let object = c.in_ok-counts_in_json-in-Count.ensures ∙ ap (λ (t : Tallied). count_object (stored_of t) t) c.count_of-counted.ensures.counts in
    rw (c.if-is_json-2.true, c.in-Count.is) (IfOk-weaker c.with_comma-then-is_json-2.result _ _ (λ _ is. is ∙ ap (λ (l : List ℕ). l ++ codes ",") object) c.with_comma-then-is_json-2.ensures)
