-- Which references are live, and which places overlap.
--   reference_of, references   the reference that a value is, and those among values
--   frame_references f         the references in a frame's locals and operands
--   live s                     those of all frames
--   overlap p q                two places of which one is a part of the other
--   is_frozen_by rs p          whether one of these references is immutable and overlaps the place
use Rattle.std.specs.Prelude.{Option, Some, None, List, filter_map, option_and_then, ◌++◌, flat_map, Bool, false, ◌&&◌, ◌==◌, ◌||◌, not}
use Rattle.std.specs.List.{list_any}
use Rattle.mv_machine.specs.Value.{Reference, Value, Leaf, Struct, Ref, Root, Local, Stored, Place}
use Rattle.mv_machine.specs.State.{Frame, State, frames, same_key}
use Rattle.mv_move_types.specs.Paths.{begins}

-- the reference that a value is, if it is one
abbrev pub reference_of : Value → Option Reference
reference_of (Leaf kind n) = None
reference_of (Struct name fields) = None
reference_of (Ref r) = Some r

-- the references among values
abbrev pub references : List Value → List Reference
references = filter_map reference_of

-- the references in unmoved locals
abbrev pub local_references : List (Option Value) → List Reference
local_references = filter_map (option_and_then reference_of)

-- a frame's live references
abbrev pub frame_references : Frame → List Reference
frame_references f = local_references f.locals ++ references f.stack

-- the live references of a state
abbrev pub live : State → List Reference
live s = flat_map frame_references (frames s)

-- whether two roots are one
abbrev pub same_root : Root → Root → Bool
same_root (Local m k) (Local n l) = (m == n) && (k == l)
same_root (Stored j) (Stored k) = same_key j k
same_root (Local m k) (Stored j) = false
same_root (Stored j) (Local m k) = false

-- two places overlap where they have one root, and one's path begins the other's
abbrev pub overlap : Place → Place → Bool
overlap p q = same_root p.root q.root && (begins p.path q.path || begins q.path p.path)

-- whether one of these references is immutable and its place overlaps this one
abbrev pub is_frozen_by : List Reference → Place → Bool
is_frozen_by rs p = list_any (λ r. not r.is_mutable && overlap r.place p) rs
