use Rattle.std.proofs.Common.{not, sym, ap, ◌∙◌}
use Rattle.std.specs.Option.{option_copied}
use Rattle.mv_move_types.specs.Flow.{exit_falls_through}
use Rattle.mv_cfg.proofs.Ends.{ends_well-read}
use Rattle.mv_cfg.proofs.is_ended.Goals as goal

pub returns-in-Some : goal.returns-in-Some
returns-in-Some c =
    ap not (c.falls_through.ensures ∙ ap exit_falls_through c.exit.ensures)
    ∙ sym (ends_well-read c.args.code.now c.in-Some.last.now (sym c.last.ensures.value ∙ ap option_copied c.in-Some.is))
