-- What gave the value of a bind, and of a test.
pub use Rattle.mv_module_text.proofs.Texts.{on_bind as bind_some}
pub use Rattle.mv_uleb.proofs.Spelled.{then_some-parts as then_some_parts}
use Rattle.std.specs.Prelude.{◌≡◌, Bool, true, false, cond, Option, Some, None}
use Rattle.std.proofs.Common.{refl}
use Rattle.std.proofs.lemmas.Option.{none-some}

-- a test that was passed, and what stands after it
pub cond_parts : {A : Type 0} (b : Bool) (o : Option A) (y : A) → cond b o None ≡ Some y → (b ≡ true) × (o ≡ Some y)
cond_parts true o y e = (refl, e)
cond_parts false o y e = absurd (none-some y e)
