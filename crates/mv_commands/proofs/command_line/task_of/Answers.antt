use Rattle.std.proofs.Common.{◌∙◌}
use Rattle.clap.specs.Words.{found_of, rows_of, subcommand_rows_of}
use Rattle.clap.specs.declared.parser.ArgMatches.TheViews.{out-ArgMatches}
use Rattle.mv_commands.proofs.Tasks.{name_with_rows, task_of_named}
use Rattle.mv_commands.proofs.command_line.task_of.Goals as goal

pub returns-in-Some : goal.returns-in-Some
returns-in-Some c =
    task_of_named (subcommand_rows_of c.args.matches.now) c.in-Some.name.now (rows_of (found_of c.in-Some.found.now)) _
    (c.in-Some.ensures.name ∙ name_with_rows _ _ (out-ArgMatches c.args.matches.now).subcommand) c.in-Some.ensures.rows c.named_task.ensures
