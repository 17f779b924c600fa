-- What holds of every state of a run over accepted modules.
--   seen s                             each frame of a state, with what the frame above it was lent
--   IsCovered modules certificates v   what the certificate says at the frame's instruction covers it
--   KeepsOut modules upper lower       no reference of the lower frame leads into a struct that the upper one acquires
--   KeepsApart upper lower             no mutable reference of the upper frame overlaps an immutable one of the lower
--   StandTogether fs                   frames of one module stand next to each other
--   Holds modules certificates s       all of these hold of a state
-- seen_under and acquires_of are parts of these.
use Rattle.std.specs.Prelude.{◌≡◌, ℕ, ◌<◌, false, IsTrue, List, [], ◌∷◌, Option, Some, Contains, All, AllPairs, slice_get, option_and_then}
use Rattle.std.specs.Option.{option_map_or}
use Rattle.mv_move_types.specs.declared.tables.Key.{Key}
use Rattle.mv_move_types.specs.Module.{Module, FunctionDefinition}
use Rattle.mv_machine.specs.Value.{Stored, Reference}
use Rattle.mv_machine.specs.State.{Frame, State, frames}
use Rattle.mv_machine.specs.Live.{frame_references, overlap}
use Rattle.mv_certificate_rules.specs.Certificate.{Known, Certificate, Stated}
use Rattle.mv_type_rules.specs.TypeRules.{Types}
use Rattle.mv_certificate.specs.Known.{known_before}
use Rattle.mv_soundness.specs.Borrows.Covers.{Seen, Covers}

-- each frame with the references that the frame above it was lent
abbrev pub seen_under : List (Option Reference) → List Frame → List Seen
seen_under lent [] = []
seen_under lent (f ∷ fs) = record { frame = f; lent = lent } ∷ seen_under f.entered_with fs

-- each frame of a state so
abbrev pub seen : State → List Seen
seen s = seen_under [] (frames s)

-- a frame's module and function are there, and what the certificate says of its instruction covers it
pub record IsCovered (modules : List Module) (certificates : List Certificate) (v : Seen) : Type 0 where
  pub home : Module
  pub function : FunctionDefinition
  pub certificate : Certificate
  pub stated : Stated
  pub known : Known
  pub types : Types
  pub is_home : slice_get modules v.frame.function.place ≡ Some home
  pub is_function : slice_get home.functions v.frame.function.index ≡ Some function
  pub is_certificate : slice_get certificates v.frame.function.place ≡ Some certificate
  pub is_stated : slice_get certificate v.frame.function.index ≡ Some stated
  pub is_known : known_before home function stated v.frame.at ≡ Some (known, types)
  pub covers : Covers known v function.acquires

-- what an upper frame's function acquires
abbrev pub acquires_of : List Module → Frame → List ℕ
acquires_of modules f =
    option_map_or (λ (d : FunctionDefinition). d.acquires)
    (option_and_then (λ (m : Module). slice_get m.functions f.function.index) (slice_get modules f.function.place)) []

-- no reference of the lower frame leads into a struct that the upper one acquires
abbrev pub KeepsOut : List Module → Frame → Frame → Type 0
KeepsOut modules upper lower =
    (r : Reference) (key : Key) → Contains (frame_references lower) r → r.place.root ≡ Stored key → key.place ≡ upper.function.place →
    Contains (acquires_of modules upper) key.index → ⊥

-- no mutable reference of the upper frame overlaps an immutable one of the lower
abbrev pub KeepsApart : Frame → Frame → Type 0
KeepsApart upper lower =
    (q r : Reference) → Contains (frame_references upper) q → Contains (frame_references lower) r → IsTrue q.is_mutable → r.is_mutable ≡ false →
    IsTrue (overlap q.place r.place) → ⊥

-- frames of one module stand next to each other: none of another module stands between two of them
abbrev pub StandTogether : List Frame → Type 0
StandTogether fs =
    (i j k : ℕ) (e f g : Frame) → i < j → j < k → slice_get fs i ≡ Some e → slice_get fs j ≡ Some f → slice_get fs k ≡ Some g →
    e.function.place ≡ g.function.place → f.function.place ≡ e.function.place

-- the state is as the certificates say
pub record Holds (modules : List Module) (certificates : List Certificate) (s : State) : Type 0 where
  pub covered : All (IsCovered modules certificates) (seen s)
  pub together : StandTogether (frames s)
  pub kept_out : AllPairs (KeepsOut modules) (frames s)
  pub kept_apart : AllPairs KeepsApart (frames s)
