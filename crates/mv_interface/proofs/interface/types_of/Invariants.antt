use Rattle.mv_interface.proofs.Common.{[], ◌≡◌, FunctionDefinition, length, map, take, types_by, unwrap_or}
use Rattle.mv_interface.specs.Interface.{tokens_on}
use Rattle.mv_interface.proofs.interface.types_of.Given as goal

-- the types of the functions so far
abbrev pub invariant-loop-d : goal.invariant-loop-d
invariant-loop-d l = record {
  so_far : l.types ≡ map (λ (d : FunctionDefinition). types_by l.structs (unwrap_or (tokens_on l.side l.m d) [])) (take l.d-index l.m.functions);
  count : length l.types ≡ l.d-index;
}
