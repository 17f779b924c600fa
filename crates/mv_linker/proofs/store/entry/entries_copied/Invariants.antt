use Rattle.mv_linker.proofs.Common.{◌≡◌, published_in, published_under, take}
use Rattle.mv_linker.proofs.store.entry.entries_copied.Given as goal

-- those so far
abbrev pub invariant-loop-i : goal.invariant-loop-i
invariant-loop-i l = published_in l.entries.items ≡ published_under (take l.i l.modules.entries)
