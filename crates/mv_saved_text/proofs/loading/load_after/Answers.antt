use Rattle.mv_saved_text.proofs.Common.{◌≤◌, List, ap, arith, length, subst, length-map, err_from_is_err_and, offer_of, offers_of, AllPass, AreNotJoined, head_of, Offered}
use Rattle.mv_saved_text.proofs.Loads.Loaded.{fails-joined, head-few}
use Rattle.mv_saved_text.proofs.loading.load_after.Goals as goal

pub of_offers-requires : goal.of_offers-requires
of_offers-requires c =
    let few : length (offers_of c.args.head.now.offers.items) ≤ 4096 = head-few c.requires.0 (head_of c.args.head.now) c.args.reader.now c.requires.1.are c.requires.1.begins in
    omega (arith, few, ap length c.deref.ensures.value, length-map c.args.head.now.offers.items offer_of)

pub returns-in_err-published-clause-refused : goal.returns-in_err-published-clause-refused
returns-in_err-published-clause-refused c = λ bytes begun.
    let p = err_from_is_err_and c.from_residual.result c.from_residual.ensures.1 in
    rw (p.1, p.2)
    (fails-joined bytes (head_of c.args.head.now) c.args.reader.now begun.are begun.begins
    c.in_err-published.field-0.0 (subst (λ (os : List Offered). AreNotJoined (offers_of os) c.in_err-published.field-0.0) c.deref.ensures.value c.in_err-published.ensures.refused))

pub read_stored-requires-clause-passed : goal.read_stored-requires-clause-passed
read_stored-requires-clause-passed c =
    subst (λ (os : List Offered). AllPass (offers_of os) c.in_ok-published.published.modules) c.deref.ensures.value c.in_ok-published.ensures.passed

pub returns-in_err-storage-clause-refused : goal.returns-in_err-storage-clause-refused
returns-in_err-storage-clause-refused c = λ bytes begun.
    let p = err_from_is_err_and c.from_residual-in_err-storage.result c.from_residual-in_err-storage.ensures.1 in
    rw (p.1, p.2) (c.in_err-storage.ensures.refused bytes begun)

pub returns-clause-whole : goal.returns-clause-whole
returns-clause-whole c = c.in_ok-storage.ensures.whole

pub returns-clause-loaded : goal.returns-clause-loaded
returns-clause-loaded c = c.in_ok-storage.ensures.loaded
