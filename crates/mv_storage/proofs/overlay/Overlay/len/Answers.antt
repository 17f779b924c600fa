use Rattle.mv_storage.proofs.Common.{ap, length}
use Rattle.std.specs.Option.{option_map}
use Rattle.mv_storage.proofs.overlay.Overlay.len.Goals as goal

pub returns-in-Some : goal.returns-in-Some
returns-in-Some c = ap (option_map length) c.in-Some.ensures

pub returns-in-None : goal.returns-in-None
returns-in-None c = ap (option_map length) c.in-None.ensures
