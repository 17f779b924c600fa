-- What is read of the functions of a module.
use Rattle.std.specs.Prelude.{◌≡◌, ℕ, List, ◌++◌, flat_map, slice_get, Some}
use Rattle.mv_module_text.specs.Laws.{AreBytes}
use Rattle.mv_move_types.specs.Module.{Module, FunctionDefinition}
use Rattle.mv_certificate_rules.specs.Certificate.{Stated}
use Rattle.mv_certificate_rules.specs.CertificateText.{stated_text}
use Rattle.mv_certificate_rules.specs.Shape.{StatedFits}

-- bytes begin with the text of what is stated of a function, which fits it, and with the text of nothing else that does
pub record IsFunctionRead (m : Module) (d : FunctionDefinition) (bytes rest : List ℕ) (stated : Stated) : Type 0 where
  pub text : bytes ≡ flat_map stated_text stated ++ rest
  pub left : AreBytes rest
  pub fits : StatedFits m d stated
  pub only : (other : Stated) (behind : List ℕ) → bytes ≡ flat_map stated_text other ++ behind → StatedFits m d other → behind ≡ rest

-- bytes begin so for the function at a place
abbrev pub IsReadAt : Module → ℕ → List ℕ → List ℕ → Stated → Type 0
IsReadAt m f bytes rest stated = (d : FunctionDefinition) → slice_get m.functions f ≡ Some d → AreBytes bytes → IsFunctionRead m d bytes rest stated

-- bytes begin with the text of nothing that fits the function at a place
abbrev pub IsUnreadAt : Module → ℕ → List ℕ → Type 0
IsUnreadAt m f bytes =
    (d : FunctionDefinition) → slice_get m.functions f ≡ Some d → (stated : Stated) (rest : List ℕ)
    → bytes ≡ flat_map stated_text stated ++ rest → StatedFits m d stated → ⊥

-- what is stated fits the function at a place
abbrev pub FitsAt : Module → ℕ → Stated → Type 0
FitsAt m f stated = (d : FunctionDefinition) → slice_get m.functions f ≡ Some d → StatedFits m d stated
