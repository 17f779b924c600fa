use Rattle.mv_commands.proofs.Numbers.{number-is, number-none}
use Rattle.mv_commands.proofs.command_line.number_of.Goals as goal

pub returns-in-Ok : goal.returns-in-Ok
returns-in-Ok c = number-is c.args.text.now c.in-Ok.number c.in-Ok.ensures.value.0.0 c.in-Ok.ensures.value.0.1

pub returns-in-Err : goal.returns-in-Err
returns-in-Err c = number-none c.args.text.now c.in-Err.ensures.value.0
