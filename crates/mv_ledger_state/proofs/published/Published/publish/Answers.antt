use Rattle.mv_ledger_state.proofs.Common.{◌∙◌, ◌≤◌, List, arith, length, subst, sym, length-map, err_from_is_err_and, published_of, published_one, offers_of, PublishedModule, AllPass, FailsAmong, IsRefusedBy, Offered}
use Rattle.mv_ledger_state.proofs.Bundles.Joining.{few-offers}
use Rattle.mv_ledger_state.proofs.Bundles.Verifying.{as-many}
use Rattle.mv_ledger_state.proofs.Phases.{accepted, kept_out, refused_among}
use Rattle.mv_ledger_state.proofs.published.Published.publish.Goals as goal
use Rattle.mv_ledger_state.proofs.published.Published.publish.Goals.{In_ok-news}

-- the modules passed
passed-of : (c : In_ok-news) → AllPass (offers_of c.in_ok-bundle.bundle.offers.items) (published_of c.in_ok-news.news.items)
passed-of c = subst (λ (xs : List Offered). AllPass (offers_of xs) (published_of c.in_ok-news.news.items)) c.deref.ensures.value c.in_ok-news.ensures.passed

pub join-requires-clause-few : goal.join-requires-clause-few
join-requires-clause-few c =
    let many = as-many (offers_of c.in_ok-bundle.bundle.offers.items) (published_of c.in_ok-news.news.items) (passed-of (goal.at.join-requires-clause-few c).In_ok-news) in
    let few = few-offers c.args.payload.now c.in_ok-bundle.bundle.sender (offers_of c.in_ok-bundle.bundle.offers.items) c.in_ok-bundle.ensures.asked in
    omega (arith, many, few, length-map c.in_ok-news.news.items published_one)

pub returns-in_err-bundle-clause-refused : goal.returns-in_err-bundle-clause-refused
returns-in_err-bundle-clause-refused c =
    let p = err_from_is_err_and c.from_residual.result c.from_residual.ensures.1 in
    rw (p.1, p.2) (c.in_err-bundle.ensures.refused c.args.self.now.modules)

pub returns-in_err-news-clause-refused : goal.returns-in_err-news-clause-refused
returns-in_err-news-clause-refused c =
    let p = err_from_is_err_and c.from_residual-in_err-news.result c.from_residual-in_err-news.ensures.1 in
    rw (p.1, p.2) (refused_among c.args.self.now.modules c.args.payload.now c.in_ok-bundle.bundle.sender (offers_of c.in_ok-bundle.bundle.offers.items) c.in_ok-bundle.ensures.asked
    c.in_err-news.field-0.0 (subst (λ (xs : List Offered). IsRefusedBy (FailsAmong (offers_of xs)) c.in_err-news.field-0.0) c.deref.ensures.value c.in_err-news.ensures.refused))

pub returns-in_err-join-clause-refused : goal.returns-in_err-join-clause-refused
returns-in_err-join-clause-refused c =
    let p = err_from_is_err_and c.from_residual-in_err-join.result c.from_residual-in_err-join.ensures.1 in
    rw (p.1, p.2) (kept_out c.args.self.now.modules c.args.payload.now c.in_ok-bundle.bundle.sender (offers_of c.in_ok-bundle.bundle.offers.items) c.in_ok-bundle.ensures.asked
    (published_of c.in_ok-news.news.items) (passed-of (goal.at.returns-in_err-join-clause-refused c).In_ok-news) c.in_err-join.field-0.0 c.in_err-join.ensures.refused)

pub returns-clause-accepted : goal.returns-clause-accepted
returns-clause-accepted c =
    accepted c.args.self.now.modules c.args.payload.now c.in_ok-bundle.bundle.sender (offers_of c.in_ok-bundle.bundle.offers.items) c.in_ok-bundle.ensures.asked (published_of c.in_ok-news.news.items)
    (passed-of (goal.at.returns-clause-accepted c).In_ok-news) c.in_ok-join.ensures.joins c.len-count.result c.join.new.self.modules
    (c.len-count.ensures ∙ c.in_ok-news.news.ok.0 ∙ sym (length-map c.in_ok-news.news.items published_one)) (subst (λ (ps : List PublishedModule). length ps ≤ 4096) c.in_ok-join.ensures.modules c.in_ok-join.ensures.held.few)
    c.in_ok-join.ensures.modules
