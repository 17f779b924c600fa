use Rattle.mv_saved_text.proofs.Common.{take, offers_of, AllPass}
use Rattle.mv_saved_text.proofs.loading.singly.are_offered.Given as goal

abbrev pub invariant-each : goal.invariant-each
invariant-each l = AllPass (offers_of (take l.place l.offers)) (take l.place l.store)
