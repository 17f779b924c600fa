use Rattle.mv_binary_format.proofs.Common.{◌≡◌, ◌≤◌, length, headers_of, tables_of}
use Rattle.mv_binary_format.proofs.Loops.{with_front}
use Rattle.mv_binary_format.proofs.Placed.{placed_from}
use Rattle.mv_binary_format.proofs.contents.read_contents.Given as goal

abbrev pub invariant-reading : goal.invariant-reading
invariant-reading l = record {
  small : l.end ≤ 65536;
  goes : with_front (tables_of l.tables.items) (placed_from l.end (headers_of l.headers.items) l.reader) ≡ placed_from 0 (headers_of l.initial.headers.items) l.initial.reader;
}

abbrev pub decreases-reading : goal.decreases-reading
decreases-reading l = length (headers_of l.headers.items)
