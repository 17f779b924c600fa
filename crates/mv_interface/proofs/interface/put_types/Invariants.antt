use Rattle.mv_interface.proofs.Common.{◌≡◌, take, types_by}
use Rattle.mv_interface.proofs.interface.put_types.Given as goal

-- the types so far
abbrev pub invariant-loop-token : goal.invariant-loop-token
invariant-loop-token l = l.types.items ≡ types_by l.structs (take l.token-index l.tokens)
