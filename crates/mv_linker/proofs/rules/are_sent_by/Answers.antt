use Rattle.mv_linker.proofs.Common.{◌∙◌, ◌≡◌, AreSentBy, IsTrue, Kept, Option, PublishedModule, ℕ, is_sent_by, list_all, published_in, subst, sym, tables_in}
use Rattle.std.specs.Prelude.{◌↔◌}
use Rattle.mv_linker.proofs.ListTests.{list_all-maps}
use Rattle.mv_linker.proofs.rules.are_sent_by.Goals as goal

pub returns-in-Some : goal.returns-in-Some
returns-in-Some c =
    let bundle = tables_in (published_in c.args.added.now) in
    let is : c.all_sent.result ≡ list_all (is_sent_by c.in-Some.address) bundle =
    c.all_sent.ensures ∙ sym (list_all-maps (λ (p : PublishedModule). p.tables) (λ (k : Kept). k.published) (is_sent_by c.in-Some.address) c.args.added.now) in
    subst (λ (o : Option ℕ). IsTrue c.all_sent.result ↔ AreSentBy o bundle) (sym c.in-Some.is) ((λ yes. sym is ∙ yes), (λ yes. is ∙ yes))
