use Rattle.std.proofs.Common.{◌≡◌, take, length}
use Rattle.std.specs.Io.KnownBytes.{Consumes}
use Rattle.moveledger.proofs.reading.read_length.Given as goal
use Rattle.mv_uleb.specs.Uleb.{AreHigh}

abbrev pub invariant-loop-i : goal.invariant-loop-i
invariant-loop-i g l = record {
  taken : Consumes (g.R.Read.remaining l.fn.reader) (g.R.Read.remaining l.reader) (take l.i l.bytes);
  high : AreHigh (take l.i l.bytes);
  ten : length l.bytes ≡ 10;
}
