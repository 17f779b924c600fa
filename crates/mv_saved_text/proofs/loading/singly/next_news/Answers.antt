use Rattle.mv_saved_text.proofs.Common.{[], ◌++◌, ◌∷◌, ◌≡◌, arith, common_steps, subst, sym, All-append, All-cons, All-nil, AreTexts, HasItsTexts}
use Rattle.mv_saved_text.proofs.loading.singly.next_news.Goals as goal

pub each-preserved : goal.each-preserved
each-preserved c =
    let pushed : c.push.new.self.items ≡ c.each.news.items ++ c.in_ok-verified.field-0 ∷ [] = grind (arith, common_steps) in
    let one = All-cons HasItsTexts c.in_ok-verified.field-0 [] c.in_ok-verified.ensures.texts (All-nil HasItsTexts) in
    subst AreTexts (sym pushed) (All-append HasItsTexts c.each.news.items (c.in_ok-verified.field-0 ∷ []) c.each.invariant one)
