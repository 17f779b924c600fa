use Rattle.std.proofs.Common.{◌≡◌, ◌+◌, ◌++◌, take, vec_len}
use Rattle.std.specs.Vec.{vec_capacity}
use Rattle.mv_interface.proofs.lists.put_all.Given as goal

-- the elements so far
abbrev pub invariant-loop-x : goal.invariant-loop-x
invariant-loop-x g l = record {
  items : l.all.items ≡ l.fn.all.items ++ take l.x-index l.more;
  len : vec_len l.all ≡ vec_len l.fn.all + l.x-index;
  room : vec_capacity l.all ≡ vec_capacity l.fn.all;
}
