use Rattle.mv_saved_text.proofs.Common.{◌++◌, ◌≡◌, flat_map, length, map, take, uleb, offered, offer_text}
use Rattle.mv_saved_text.proofs.saving.put_modules.Given as goal

abbrev pub invariant-each : goal.invariant-each
invariant-each l = l.text.items ≡ (l.fn.text.items ++ uleb (length l.store)) ++ flat_map offer_text (map offered (take l.place l.store))
