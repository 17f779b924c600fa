use Rattle.mv_linker.proofs.Common.{[], ◌∷◌, ◌≡◌, IfOk, Kept, List, PublishedModule, all_differ, arith, have_one_name, length, published_in, refl, subst, sym, tables_in, true}
use Rattle.mv_linker.proofs.ListTests.{all_differ-maps}
use Rattle.mv_linker.proofs.rules.names_differ.Goals as goal

-- a module alone differs from all others
alone : (added : List Kept) → length added ≡ 1 → true ≡ all_differ have_one_name (tables_in (published_in added))
alone [] e = absurd (omega (arith, e))
alone (k ∷ []) e = refl
alone (k ∷ j ∷ added) e = absurd (omega (arith, e))

pub returns-in-len1 : goal.returns-in-len1
returns-in-len1 c = alone c.args.added.now (omega (arith, c.in-len1.len_at_least, c.in-len1.len_below))

pub returns-in_default : goal.returns-in_default
returns-in_default c = subst (λ d. IfOk c.are_distinct.result (λ b. b ≡ d)) (sym (all_differ-maps (λ (p : PublishedModule). p.tables) (λ (k : Kept). k.published) have_one_name c.args.added.now)) c.are_distinct.ensures
