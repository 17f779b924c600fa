use Rattle.std.proofs.Common.{◌≡◌, slice_get}
use Rattle.mv_storage.proofs.page.Page.next_address.Given as goal

abbrev pub invariant-loop-left : goal.invariant-loop-left
invariant-loop-left l = slice_get l.ahead l.left ≡ slice_get l.initial.ahead l.initial.left

abbrev pub decreases-loop-left : goal.decreases-loop-left
decreases-loop-left l = l.left
