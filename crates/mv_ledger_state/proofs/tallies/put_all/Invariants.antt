use Rattle.mv_ledger_state.proofs.Common.{◌≡◌, length, lists_of, vec_capacity, vec_len, with_placed, List, PublishedModule}
use Rattle.mv_ledger_state.specs.Blocks.{held_in, Ascend, CanNote}
use Rattle.mv_ledger_state.proofs.Bundles.Placing.{IsJoining}
use Rattle.mv_ledger_state.proofs.tallies.put_all.Given as goal

abbrev pub invariant-loop-one : goal.invariant-loop-one
invariant-loop-one l = record {
  joining : IsJoining (with_placed (lists_of l.initial.modules.items) l.initial.one-iterator.rest.items) (lists_of l.modules.items) l.one-iterator.rest.items (vec_len l.modules) (vec_capacity l.modules);
  notes : CanNote (length l.one-iterator.rest.items) l.blocks;
  ascend : Ascend l.blocks;
  held : (published : List PublishedModule) → held_in l.blocks published (lists_of l.modules.items) ≡ held_in l.initial.blocks published (lists_of l.initial.modules.items);
}
