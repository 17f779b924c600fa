use Rattle.mv_binary_format.proofs.Common.{version_number}
use Rattle.mv_module_text.specs.Parsing.{instruction_from}
use Rattle.mv_binary_format.proofs.Codes.{Passes}
use Rattle.mv_binary_format.proofs.cursor.Cursor.read.Given as goal

abbrev pub invariant-reading : goal.invariant-reading
invariant-reading l = Passes (instruction_from (version_number l.version)) l.count l.counter l.initial.reader l.reader
