use Rattle.mv_move_types.specs.Versions.{version_number}
use Rattle.mv_module_text.proofs.Entries.{ReadsOn}
use Rattle.mv_module_text.proofs.reader.Reader.collect.Given as goal

abbrev pub invariant-entries : goal.invariant-entries
invariant-entries g l = ReadsOn (g.T.Entry.from (version_number l.version)) l.count l.counter l.initial.ahead l.entries.items l.ahead
