use Rattle.std.proofs.Common.{◌≡◌, Option, Some, None, false, is_some, refl, sym, ◌∙◌}
use Rattle.mv_storage_tests.proofs.tests.steps.run.Goals as goal

none-there : {A : Type 0} (o : Option A) → is_some o ≡ false → o ≡ None
none-there None e = refl
none-there (Some x) e = cc

pub put-requires : goal.put-requires
put-requires c = record { absent = none-there _ (sym c.exists.ensures ∙ c.if-exists.false) }
