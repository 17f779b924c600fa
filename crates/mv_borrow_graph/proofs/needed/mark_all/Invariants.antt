use Rattle.std.specs.List.{list_any}
use Rattle.std.proofs.Common.{◌≡◌, ℕ, ◌<◌, ◌==◌, ◌||◌, take, length}
use Rattle.mv_borrow_graph.specs.Calls.{is_marked}
use Rattle.mv_borrow_graph.proofs.needed.mark_all.Given as goal

-- the globals so far are marked
abbrev pub invariant-loop-definition : goal.invariant-loop-definition
invariant-loop-definition l =
    (length l.marks ≡ length l.initial.marks)
    × ((y : ℕ) → y < length l.initial.marks → is_marked l.marks y ≡ (is_marked l.initial.marks y || list_any (λ t. y == t) (take l.definition-index l.acquired)))
