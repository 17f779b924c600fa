-- The first state of a run is typed, and so the whole run meets no fault of types, links or dangling references.
use Rattle.mv_soundness.proofs.Typing.Common.{◌≡◌, List, [], length, refl, arith, ◌++◌, Ok, none-some, Module, references, FunctionCall, root_value, Storage, Roots, StateTyped}
use Rattle.mv_soundness.proofs.Typing.Common.{StorageTyped}
use Rattle.mv_machine.specs.Run.{first_state}
use Rattle.mv_soundness.proofs.Typing.Keep.{Kept, Nothing, avoid_nothing, keep_stack}
use Rattle.mv_soundness.proofs.Typing.Calls.{entered_locals}
pub use Rattle.mv_soundness.specs.Typing.CallTyped.{Nowhere, CallTyped}
pub use Rattle.mv_machine.proofs.Runs.{begun}

from_nowhere : (modules : List Module) (look : Roots) → Kept modules Nowhere look Nothing
from_nowhere modules look root t far r = absurd (none-some r.value r.is_there)

pub first_typed : (modules : List Module) (storage : Storage) (call : FunctionCall) (c : CallTyped modules call) → StorageTyped modules storage
    → StateTyped modules (begun storage call (length c.others))
first_typed modules storage call c stored =
    let look : Roots = root_value (begun storage call (length c.others)) in
    let arguments = keep_stack modules Nowhere look Nothing (from_nowhere modules look) c.home call.arguments c.parameters (avoid_nothing (references call.arguments)) c.arguments in
    record {
      home = c.home;
      function = c.function;
      types = [];
      is_home = c.is_home;
      is_function = c.is_function;
      are_types = c.starts;
      stands = record {
        tokens = c.parameters ++ c.others;
        results = c.results;
        numbered = (omega arith, tt);
        are_tokens = c.are_tokens;
        are_results = c.are_results;
        locals = entered_locals modules look c.home call.arguments c.parameters c.others arguments;
        stack = tt;
        below = tt;
        storage = stored;
      };
    }

pub first_is : (modules : List Module) (storage : Storage) (call : FunctionCall) (c : CallTyped modules call) → first_state modules storage call ≡ Ok (begun storage call (length c.others))
first_is modules storage call c = rw (c.is_home, c.is_function, c.are_others) refl
