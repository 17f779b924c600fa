use Rattle.std.proofs.Common.{◌≡◌, ◌+◌, ◌∷◌, length}
use Rattle.mv_cfg.proofs.Search.{IsSearch, AreMarked, unmarked}
use Rattle.mv_cfg.proofs.reached.Given as goal

-- block k is open while its successors are marked
abbrev pub invariant-loop-next : goal.invariant-loop-next
invariant-loop-next l = record {
  search : IsSearch l.g l.marks.items (l.k ∷ l.worklist.items);
  done : AreMarked l.marks.items l.next-items l.next-index;
  left : unmarked l.marks.items + length l.worklist.items ≡ unmarked l.initial.marks.items + length l.initial.worklist.items;
}

abbrev pub invariant-loop-k : goal.invariant-loop-k
invariant-loop-k l = IsSearch l.g l.marks.items l.worklist.items

-- the blocks that aren't marked yet, and those on the worklist
abbrev pub decreases-loop-k : goal.decreases-loop-k
decreases-loop-k l = unmarked l.marks.items + length l.worklist.items
