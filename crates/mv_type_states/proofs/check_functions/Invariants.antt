use Rattle.mv_type_states.proofs.Common.{◌≡◌, map, take, types_before}
use Rattle.mv_type_rules.proofs.Functions.{AreTyped}
use Rattle.mv_type_states.proofs.check_functions.Given as goal

-- the functions so far are well typed, and their types are listed
abbrev pub invariant-loop-f : goal.invariant-loop-f
invariant-loop-f l = record {
  typed : AreTyped l.m l.f;
  listed : l.stacks.items ≡ map (types_before l.m) (take l.f l.m.functions);
}
