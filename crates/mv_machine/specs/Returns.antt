-- What holds of a run where it returns.
use Rattle.std.specs.Prelude.{List}
use Rattle.mv_machine.specs.State.{Storage, Event}
use Rattle.mv_machine.specs.Run.{RunOutcome, Returned, Aborted, Exhausted, Faulted}

-- this holds of the storage and the events of a run that returned
abbrev pub AtReturn : (Storage → List Event → Type 0) → RunOutcome → Type 0
AtReturn P (Returned steps storage events) = P storage events
AtReturn P (Aborted kind number steps) = Unit {0}
AtReturn P (Exhausted stop steps) = Unit {0}
AtReturn P (Faulted fault steps) = Unit {0}
