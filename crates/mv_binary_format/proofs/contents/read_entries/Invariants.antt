use Rattle.mv_binary_format.proofs.Common.{length, version_number}
use Rattle.mv_binary_format.proofs.Loops.{AllReads}
use Rattle.mv_binary_format.proofs.contents.read_entries.Given as goal

abbrev pub invariant-reading : goal.invariant-reading
invariant-reading g l = AllReads (g.E.Entry.from (version_number l.version)) (length l.initial.reader) l.counter l.initial.reader l.entries.items l.reader
