use Rattle.mv_binary_format.proofs.Common.{headers_of, header_from}
use Rattle.mv_module_text.proofs.Entries.{ReadsOn}
use Rattle.mv_binary_format.proofs.headers.read_headers.Given as goal

abbrev pub invariant-reading : goal.invariant-reading
invariant-reading l = ReadsOn header_from l.count l.counter l.initial.reader (headers_of l.headers.items) l.reader
