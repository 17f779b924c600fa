use Rattle.mv_saved_text.proofs.Common.{◌∙◌, ◌≤◌, List, None, ap, arith, length, subst, sym, length-map, PublishedModule, with_modules, published_of, published_one, offer_of, offers_of, AllPass, AreNotJoined}
use Rattle.mv_saved_text.proofs.Common.{IsKeptOut, MayFollow, PublishedView}
use Rattle.mv_ledger_state.proofs.Bundles.Verifying.{as-many}
use Rattle.mv_saved_text.proofs.Loads.LoadedModules.{all-there, not-linked, not-passed}
use Rattle.mv_saved_text.proofs.loading.modules.of_offers_together.Goals as goal
use Rattle.mv_saved_text.proofs.loading.modules.of_offers_together.Goals.{In-Ok}

-- so many modules passed
few-of : (c : In-Ok) → length (published_of c.in-Ok.news.items) ≤ 4096
few-of c = omega (arith, as-many (offers_of c.args.offers.now) (published_of c.in-Ok.news.items) c.in-Ok.ensures.passed, length-map c.args.offers.now offer_of, c.requires)

pub join-requires-clause-few : goal.join-requires-clause-few
join-requires-clause-few c = omega (arith, few-of (goal.at.join-requires-clause-few c).In-Ok, length-map c.in-Ok.news.items published_one)

pub returns-in-Err-clause-refused : goal.returns-in-Err-clause-refused
returns-in-Err-clause-refused c =
    subst (AreNotJoined (offers_of c.args.offers.now)) (sym c.because.ensures) (not-passed (offers_of c.args.offers.now) c.in-Err.refusal c.in-Err.ensures.refused)

pub returns-in-Ok-join-clause-passed : goal.returns-in-Ok-join-clause-passed
returns-in-Ok-join-clause-passed c =
    let ps = published_of c.in-Ok.news.items in
    let all = c.in-Ok-join.ensures.modules ∙ ap (λ (p : PublishedView). with_modules p.modules ps) c.new-published.ensures
    ∙ all-there ps (subst (λ (p : PublishedView). MayFollow None p.modules ps) c.new-published.ensures c.in-Ok-join.ensures.joins) in
    subst (λ (qs : List PublishedModule). AllPass (offers_of c.args.offers.now) qs) (sym all) c.in-Ok.ensures.passed

pub returns-in-Err-join-clause-refused : goal.returns-in-Err-join-clause-refused
returns-in-Err-join-clause-refused c =
    let ps = published_of c.in-Ok.news.items in
    subst (AreNotJoined (offers_of c.args.offers.now)) (sym c.because-in-Err-join.ensures)
    (not-linked (offers_of c.args.offers.now) ps c.in-Err-join.refusal c.in-Ok.ensures.passed (few-of (goal.at.returns-in-Err-join-clause-refused c).In-Ok)
    (subst (λ (p : PublishedView). IsKeptOut None p.modules ps c.in-Err-join.refusal) c.new-published.ensures c.in-Err-join.ensures.refused))
