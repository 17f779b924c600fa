use Rattle.mv_saved_text.proofs.Common.{◌≤◌, List, Option, ap, arith, length, subst, sym, ℕ, IfSome, length-map, offer_of, offers_of, AreNotJoined, head_of, Offered}
use Rattle.mv_saved_text.specs.Loading.{LongerFail}
use Rattle.mv_saved_text.proofs.Loads.Loaded.{head-few}
use Rattle.mv_saved_text.proofs.Loads.Longer.{longer-joined}
use Rattle.mv_saved_text.proofs.loading.longer.refusal_after.Goals as goal

pub of_offers-requires : goal.of_offers-requires
of_offers-requires c =
    let few : length (offers_of c.args.head.now.offers.items) ≤ 4096 = head-few c.requires.0 (head_of c.args.head.now) c.args.reader.now c.requires.1.are c.requires.1.begins in
    omega (arith, few, ap length c.deref.ensures.value, length-map c.args.head.now.offers.items offer_of)

pub returns-in-Err : goal.returns-in-Err
returns-in-Err c = λ bytes begun.
    subst (λ (o : Option ℕ). IfSome o (LongerFail bytes)) (sym c.number.ensures)
    (longer-joined bytes (head_of c.args.head.now) c.args.reader.now begun.are begun.begins c.in-Err.error
    (subst (λ (os : List Offered). AreNotJoined (offers_of os) c.in-Err.error) c.deref.ensures.value c.in-Err.ensures.refused))
