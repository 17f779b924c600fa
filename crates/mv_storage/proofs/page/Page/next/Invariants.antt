use Rattle.std.proofs.Common.{◌≡◌}
use Rattle.mv_storage.specs.Pages.{page_of}
use Rattle.mv_storage.proofs.page.Page.next.Given as goal

abbrev pub invariant-loop-self : goal.invariant-loop-self
invariant-loop-self l =
    (l.self-inside.definition ≡ l.initial.self-inside.definition)
    × (page_of l.self-inside.definition l.self-inside.most l.self-inside.entries ≡ page_of l.initial.self-inside.definition l.initial.self-inside.most l.initial.self-inside.entries)

abbrev pub decreases-loop-self : goal.decreases-loop-self
decreases-loop-self l = l.self-inside.most
