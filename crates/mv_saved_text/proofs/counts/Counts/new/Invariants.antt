use Rattle.mv_saved_text.proofs.Common.{◌≡◌, map, take, no_counts}
use Rattle.mv_saved_text.proofs.counts.Counts.new.Given as goal

abbrev pub invariant-each : goal.invariant-each
invariant-each l = map (λ r. r.items) l.rows.items ≡ take l.place (no_counts l.layouts)
