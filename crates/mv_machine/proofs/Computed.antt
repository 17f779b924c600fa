-- Names all that a run computes with, so that a worked run unfolds this one name.
use Rattle.mv_machine.proofs.Common.{ℕ, admitted, run, turns, rule, step, abort, branch_if, call, callee, found_by, return_results, said_by, signature_tags, borrow_global, exists, keyed_struct, move_from}
use Rattle.mv_machine.proofs.Common.{move_to, borrow_local, copy_local, held, move_local, pop, store_local, binary, cast, comparison, constant, equality, logic, negation, shift}
use Rattle.mv_machine.proofs.Common.{borrow_field, freeze, own_field, read_reference, write_reference, own_struct, pack, unpack}
use Rattle.std.specs.Fmt.{digits}

unfoldable pub computed : ℕ
unfolding binary comparison shift cast logic negation constant equality branch_if signature_tags said_by found_by callee call return_results abort pop held copy_local move_local store_local borrow_local own_struct pack unpack own_field borrow_field read_reference write_reference freeze keyed_struct exists borrow_global move_from move_to rule step turns run admitted digits
computed = 0
