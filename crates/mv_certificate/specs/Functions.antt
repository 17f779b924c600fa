-- What is stated of the function at a place holds.
use Rattle.std.specs.Prelude.{◌≡◌, ℕ, Some, slice_get, IsTrue}
use Rattle.mv_move_types.specs.Module.{Module, FunctionDefinition}
use Rattle.mv_certificate_rules.specs.Certificate.{Stated, locals_hold, edges_hold}

-- the stated availabilities of the function at a place hold
abbrev pub LocalsHoldAt : Module → ℕ → Stated → Type 0
LocalsHoldAt m f stated = (d : FunctionDefinition) → slice_get m.functions f ≡ Some d → IsTrue (locals_hold m d stated)

-- the stated edges do
abbrev pub EdgesHoldAt : Module → ℕ → Stated → Type 0
EdgesHoldAt m f stated = (d : FunctionDefinition) → slice_get m.functions f ≡ Some d → IsTrue (edges_hold m d stated)
