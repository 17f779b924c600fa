use Rattle.mv_storage.proofs.Common.{◌∙◌, ◌≤◌, List, Option, Some, ap, length, subst, sym, take, ℕ}
use Rattle.std.proofs.Common.{◌+◌, drop}
use Rattle.std.specs.Prelude.{IfSome}
use Rattle.std.specs.Option.{option_map}
use Rattle.mv_storage.proofs.overlay.Overlay.view.Goals as goal

pub part-requires : goal.part-requires
part-requires c = subst (λ (o : Option (List ℕ)). IfSome o (λ ws. c.args.offset + c.args.width ≤ length ws)) (sym c.in-Some.ensures) c.requires.fits

pub returns-in-Some : goal.returns-in-Some
returns-in-Some c = ap Some c.part.ensures ∙ ap (option_map (λ (ws : List ℕ). take c.args.width (drop c.args.offset ws))) c.in-Some.ensures

pub returns-in-None : goal.returns-in-None
returns-in-None c = ap (option_map (λ (ws : List ℕ). take c.args.width (drop c.args.offset ws))) c.in-None.ensures
