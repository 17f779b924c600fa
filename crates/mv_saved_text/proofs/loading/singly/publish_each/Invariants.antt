use Rattle.mv_saved_text.proofs.Common.{◌≡◌}
use Rattle.mv_saved_text.proofs.Loads.Offering.{HavePassed}
use Rattle.mv_saved_text.proofs.loading.singly.publish_each.Given as goal

abbrev pub invariant-each : goal.invariant-each
invariant-each l = HavePassed l.offers l.offer-index × (l.published.marks ≡ l.initial.published.marks)
