-- A typed state stays typed: over accepted modules no step meets a fault of types, of links or of a dangling reference,
-- where no live reference leads into what the step removes. The statement is `EveryStepIsTyped` (specs/Typing/Laws.antt).
--
-- Read first specs/Typing/HasType.antt and StateTyped.antt (what is typed), then Facts, Parts, Stays, one file of rows, and Rule.
--   HaveTypes, Facts, Watched    values of types; what accepted modules give to each step, and what is asked besides of the rules for locals and borrows
--   Parts, Tests, Operands   a rule's parts one after the other; `takes_gives-is`, `one_operand`, `leaf`: operands by their types
--   Within, Roots, Keep      `read_within`, `write_within`: places within values; what stays typed when a root changes
--   Frames, Storage          the same of a local of some frame, and of the storage
--   Stays                    `top_typed`, `stays_at`: the row at which a typed state stands, and the state that a rule leads to
--   the rows, by family      Families and Small (numbers, control), Locals, Structs, References and Write, Globals, Calls
--   Rule                     `rule_typed`, `step_typed`, `counted_typed`: each instruction by its row, a step, a run
--   FlowFacts, Advances      `advances`: what comes after a typed instruction is typed code, block by block
--   Names, OwnDefinitions, Callees, Addresses, Store    `sound_store`: an accepted store gives what the rows rest on
--   Whole                    `step_typed_law`, which the law cites; `run_safe`
--   First, Admitted          `first_typed`, `admitted_typed`: a run's first state is typed
--   Fine                     `fine_storage`, `typed_is_fine`: the storage that the ledger calls fine, and the typed one
pub mod Common
pub mod HaveTypes
pub mod Facts
pub mod Watched
pub mod Within
pub mod Tests
pub mod Parts
pub mod Operands
pub mod Keep
pub mod Stays
pub mod Families
pub mod Roots
pub mod Locals
pub mod References
pub mod Storage
pub mod Frames
pub mod Write
pub mod Globals
pub mod Structs
pub mod Calls
pub mod Small
pub mod Rule
pub mod FlowFacts
pub mod Advances
pub mod First
pub mod Names
pub mod OwnDefinitions
pub mod Callees
pub mod Store
pub mod Addresses
pub mod Whole
pub mod Fine
pub mod Admitted
