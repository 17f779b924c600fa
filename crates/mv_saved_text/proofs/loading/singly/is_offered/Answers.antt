use Rattle.mv_saved_text.proofs.Common.{offer_of}
use Rattle.mv_saved_text.proofs.Loads.Offering.{place-offered, same-bytes}
use Rattle.mv_saved_text.proofs.loading.singly.is_offered.Goals as goal

pub returns-then-are_same : goal.returns-then-are_same
returns-then-are_same c = λ same.
    let texts = c.texts.result in
    let offer = c.args.offer.now in
    place-offered c.modules_are_read_by_text.ensures c.args.store.now c.len-modules.ensures.store c.args.place texts.0.now texts.1.now (offer_of offer) c.are_bytes.ensures
    c.texts.ensures.text c.texts.ensures.certificate (same-bytes texts.0.now offer.text.now c.are_same.result c.are_same.ensures c.if-are_same.true)
    (same-bytes texts.1.now offer.certificate.now c.are_same-then-are_same.result c.are_same-then-are_same.ensures same)
