use Rattle.mv_ledger_state.proofs.Common.{◌+◌, ◌≡◌, ◌≤◌, length, lists_of, map, take, tally_after, true, vec_capacity, vec_len, List, PublishedModule}
use Rattle.mv_ledger_state.specs.Blocks.{held_in, is_open, Ascend}
use Rattle.mv_ledger_state.proofs.tallies.Tallies.add_run.Given as goal

abbrev pub invariant-loop-entry : goal.invariant-loop-entry
invariant-loop-entry l = record {
  after : lists_of l.self-inside.modules.items ≡ map (map (tally_after (take l.entry-index l.run))) (lists_of l.initial.self-inside.modules.items);
  notes : is_open l.blocks.marks.items ≡ true → vec_len l.blocks.noted + length l.run ≤ vec_capacity l.blocks.noted + l.entry-index;
  ascend : Ascend l.blocks;
  held : (modules : List PublishedModule) → held_in l.blocks modules (lists_of l.self-inside.modules.items) ≡ held_in l.initial.blocks modules (lists_of l.initial.self-inside.modules.items);
}
