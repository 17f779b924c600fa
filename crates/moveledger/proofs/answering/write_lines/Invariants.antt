use Rattle.std.proofs.Common.{◌≡◌, length}
use Rattle.mv_machine.specs.Ledger.{AsText}
use Rattle.mv_lines.specs.LinesView.{ended}
use Rattle.moveledger.proofs.Writing.{HasWritten, HasWrittenLines}
use Rattle.moveledger.proofs.answering.write_lines.Given as goal

abbrev pub invariant-each : goal.invariant-each
invariant-each g l = record {
  written : HasWritten l.number l.is_begun l.fn.lines.left l.lines.left (g.W.Write.contents l.fn.writer) (g.W.Write.contents l.writer);
  format : l.lines.format ≡ l.fn.lines.format;
  whole : l.fn.lines.format ≡ AsText → HasWrittenLines l.number l.is_begun l.fn.lines.left l.lines.left (g.W.Write.contents l.fn.writer) (g.W.Write.contents l.writer);
}

abbrev pub decreases-each : goal.decreases-each
decreases-each g l = length (ended l.lines.left)
