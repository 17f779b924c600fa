use Rattle.mv_binary_format.proofs.Common.{◌++◌, ◌≡◌, take, flat_map, header_text, written_headers}
use Rattle.mv_binary_format.proofs.layout.write_headers.Given as goal

abbrev pub invariant-loop-header : goal.invariant-loop-header
invariant-loop-header l = l.out.items ≡ l.initial.out.items ++ flat_map header_text (written_headers (take l.header-index l.headers))
