use Rattle.mv_saved_text.proofs.Common.{◌≡◌, take, tables_in, keyed_from}
use Rattle.mv_saved_text.proofs.layouts.Layouts.new.Given as goal

abbrev pub invariant-each : goal.invariant-each
invariant-each l = l.keyed.items ≡ keyed_from 0 (take l.place (tables_in l.store))
