use Rattle.std.specs.Prelude.{◌≡◌}
use Rattle.moveledger.specs.Progress.{Progress}
use Rattle.moveledger.proofs.AfterRecords.{IsDoneSoFar}
use Rattle.moveledger.proofs.streaming.answer_from.Given as goal

abbrev pub invariant-loop-n : goal.invariant-loop-n
invariant-loop-n g l =
    (l.answered ≡ l.n)
    × Progress l.fn.answered (g.R.Read.remaining l.fn.reader) (g.R.Read.remaining l.reader) (g.W.Write.contents l.fn.writer) (g.W.Write.contents l.writer) l.fn.ledger l.ledger l.n
    × IsDoneSoFar g.R.Read.remaining g.W.Write.contents g.A.AfterRecord.does l.fn.answered (g.R.Read.remaining l.fn.reader) (g.W.Write.contents l.fn.writer) l.fn.ledger
    l.n l.fn.after l.after
