-- What reading a module has to do with its texts.
use Rattle.std.specs.Prelude.{◌≡◌, ℕ, List, Some, ◌↔◌}
use Rattle.mv_move_types.specs.Module.{Module}
use Rattle.mv_module_text.specs.Laws.{AreBytes}
use Rattle.mv_binary_format.specs.ModuleText.{IsModuleText}
use Rattle.mv_binary_format.specs.Parsing.{module_of}

-- bytes are read as a module exactly where they are a text of it
abbrev pub IsReadByText : Type 0
IsReadByText = (bytes : List ℕ) (m : Module) → AreBytes bytes → (module_of bytes ≡ Some m ↔ IsModuleText bytes m)

-- no text is of two modules
abbrev pub IsOfOneModule : Type 0
IsOfOneModule = (bytes : List ℕ) (m n : Module) → AreBytes bytes → IsModuleText bytes m → IsModuleText bytes n → m ≡ n
