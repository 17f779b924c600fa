use Rattle.mv_ledger_state.proofs.Common.{ℕ, ◌≡◌, ◌≤◌, length, drop, lists_of}
use Rattle.mv_undo.specs.Undo.{undone}
use Rattle.mv_ledger_state.specs.Blocks.{tally_back}
use Rattle.mv_ledger_state.proofs.tallies.take_back.Given as goal

abbrev pub invariant-loop-noted : goal.invariant-loop-noted
invariant-loop-noted l = record {
  mark : l.mark ≤ length l.noted.items;
  same : (m : ℕ) → m ≤ l.mark
      → undone tally_back (drop m l.noted.items) (lists_of l.modules.items) ≡ undone tally_back (drop m l.initial.noted.items) (lists_of l.initial.modules.items);
}

abbrev pub decreases-loop-noted : goal.decreases-loop-noted
decreases-loop-noted l = length l.noted.items
