use Rattle.mv_saved_text.proofs.Common.{◌++◌, ◌≡◌, Some, slice_get, Module, tables_in}
use Rattle.mv_saved_text.proofs.Saves.KeyedIndices.{keyed_before}
use Rattle.mv_saved_text.proofs.layouts.put_keyed.Given as goal

abbrev pub invariant-each : goal.invariant-each
invariant-each l = (m : Module) → slice_get (tables_in l.store) l.place ≡ Some m → l.keyed.items ≡ l.fn.keyed.items ++ keyed_before m l.place l.i
