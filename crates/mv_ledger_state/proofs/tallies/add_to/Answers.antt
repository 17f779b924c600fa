use Rattle.mv_ledger_state.proofs.Common.{arith}
use Rattle.mv_ledger_state.proofs.Runs.TalliesFound.{tally-own}
use Rattle.mv_ledger_state.proofs.tallies.add_to.Goals as goal

pub overflow_add-tally : goal.overflow_add-tally
overflow_add-tally c = omega (arith, c.requires.room.0, c.from.ensures)

pub overflow_add-tally-2 : goal.overflow_add-tally-2
overflow_add-tally-2 c = omega (arith, c.requires.room.1, c.from-2.ensures)

pub returns : goal.returns
returns c = tally-own c.args.entry.now c.args.tally.now c.from.result c.from-2.result c.requires.own c.from.ensures c.from-2.ensures
