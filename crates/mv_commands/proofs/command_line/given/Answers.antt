use Rattle.std.proofs.Common.{ap, ◌∙◌, unwrap_or, []}
use Rattle.clap.proofs.WalkLemmas.{first_value-rows}
use Rattle.clap.specs.Words.{found_of}
use Rattle.mv_commands.proofs.Tasks.{now_of}
use Rattle.mv_commands.proofs.command_line.given.Goals as goal

pub returns : goal.returns
returns c = ap (λ s. s.now) c.unwrap_or.ensures ∙ now_of c.get_str.result _ ∙ ap (λ o. unwrap_or o []) (c.get_str.ensures ∙ first_value-rows (found_of c.args.matches.now) c.args.id.now)
