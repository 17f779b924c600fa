use Rattle.mv_storage.proofs.Common.{◌∙◌, ◌≡◌, None, Option, Some, ap, is_some, refl}
use Rattle.std.proofs.Common.{Bor, option_copied}
use Rattle.mv_storage.proofs.overlay.Overlay.exists.Goals as goal

is_some-copied : {X : Type 0} (o : Option (Bor X)) → is_some o ≡ is_some (option_copied o)
is_some-copied None = refl
is_some-copied (Some x) = refl

pub returns : goal.returns
returns c = c.is_some.ensures ∙ is_some-copied c.find.result ∙ ap is_some c.find.ensures
