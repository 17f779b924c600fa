use Rattle.mv_linker.proofs.Common.{◌≡◌, All, IsPublishable, published_in, published_of, take}
use Rattle.mv_linker.proofs.store.entry.entries_of.Given as goal

abbrev pub invariant-loop-n : goal.invariant-loop-n
invariant-loop-n l = (published_in l.entries.items ≡ published_of (take l.n-index l.new)) × All IsPublishable (published_in l.entries.items)
