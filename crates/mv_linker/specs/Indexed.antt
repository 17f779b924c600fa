-- What maps say of the modules of a bundle: the place of each name, and which names there are.
use Rattle.std.specs.Prelude.{◌≡◌, ℕ, Bool, true, cond, List, ◌∷◌, Option, Some, None, is_some}
use Rattle.std.specs.Map.{lookup}
use Rattle.mv_move_types.specs.Names.{same_module}
use Rattle.mv_move_types.specs.Module.{Module}
use Rattle.mv_linker.specs.declared.store.entry.Name.{Name}
use Rattle.mv_linker.specs.Kept.{name_in}
use Rattle.mv_linker.specs.Scope.{found_among}

-- whether a key stands for the name that another one does
abbrev pub has_name_of : Name → Name → Bool
has_name_of q k = same_module (name_in q) (name_in k)

-- under each name is the place of the last of a bundle with it
abbrev pub ArePlacesOf : List (Name × ℕ) → List Module → List ℕ → Type 0
ArePlacesOf entries ns places = (q : Name) → lookup (has_name_of q) entries ≡ found_among (name_in q) ns places None

-- the places by names, and among them the one that was put last
abbrev pub with_last : Option (Name × ℕ) → List (Name × ℕ) → List (Name × ℕ)
with_last None others = others
with_last (Some last) others = last ∷ others

-- a place is put under a name
abbrev pub PutsPlace : List (Name × ℕ) → List (Name × ℕ) → Name → ℕ → Type 0
PutsPlace old new name place = (q : Name) → lookup (has_name_of q) new ≡ cond (has_name_of name q) (Some place) (lookup (has_name_of q) old)

-- a name is put among others
abbrev pub PutsName : {V : Type 0} → List (Name × V) → List (Name × V) → Name → Type 0
PutsName old new name = (q : Name) → is_some (lookup (has_name_of q) new) ≡ cond (has_name_of name q) true (is_some (lookup (has_name_of q) old))
