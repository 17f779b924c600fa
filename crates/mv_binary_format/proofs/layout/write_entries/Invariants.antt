use Rattle.mv_binary_format.proofs.Common.{◌++◌, ◌≡◌, take, flat_map}
use Rattle.mv_binary_format.proofs.layout.write_entries.Given as goal

abbrev pub invariant-loop-entry : goal.invariant-loop-entry
invariant-loop-entry g l = l.out.items ≡ l.initial.out.items ++ flat_map g.E.Entry.text (take l.entry-index l.entries)
