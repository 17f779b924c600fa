-- Values whose struct values' abilities are those of their fields too.
use Rattle.std.specs.Prelude.{◌≡◌, true, false, List, [], ◌∷◌, Some}
use Rattle.mv_move_types.specs.declared.tables.Key.{Key}
use Rattle.mv_move_types.specs.declared.token.Abilities.{Abilities}
use Rattle.mv_move_types.specs.Names.{StructName}
use Rattle.mv_move_types.specs.Module.{Module}
use Rattle.mv_machine.specs.Value.{Value, Leaf, Struct, Ref, Values, NoMore, More}
use Rattle.mv_machine.specs.State.{Storage, key_before}
use Rattle.mv_move_types.specs.Named.{declared}
use Rattle.mv_machine.specs.Typing.{abilities_of}

-- what a struct with these abilities asks of a field with those
pub record Allows (outer inner : Abilities) : Type 0 where
  pub copy : outer.copy ≡ true → inner.copy ≡ true
  pub drop : outer.drop ≡ true → inner.drop ≡ true

-- each struct value is of a struct that is declared, and each field of it has copy and drop where the struct has
abbrev mutual
  pub IsKept : List Module → Value → Type 0
  IsKept modules (Leaf kind n) = Unit {0}
  IsKept modules (Struct name fields) = (a : Abilities) × (declared modules name ≡ Some a) × AreKept modules a fields
  IsKept modules (Ref r) = Unit {0}

  pub AreKept : List Module → Abilities → Values → Type 0
  AreKept modules outer NoMore = Unit {0}
  AreKept modules outer (More v vs) = Allows outer (abilities_of modules v) × IsKept modules v × AreKept modules outer vs

-- a struct's values are counted if it has neither copy nor drop
pub record IsScarce (modules : List Module) (name : StructName) : Type 0 where
  pub abilities : Abilities
  pub is_declared : declared modules name ≡ Some abilities
  pub copy : abilities.copy ≡ false
  pub drop : abilities.drop ≡ false

-- each stored value is so
abbrev pub StorageIsKept : List Module → Storage → Type 0
StorageIsKept modules [] = Unit {0}
StorageIsKept modules (e ∷ es) = IsKept modules e.value × StorageIsKept modules es

-- all these entries' keys stand above a key
abbrev pub AreAbove : Key → Storage → Type 0
AreAbove key [] = Unit {0}
AreAbove key (e ∷ es) = (key_before key e.key ≡ true) × AreAbove key es

-- keys ascend
abbrev pub IsAscending : Storage → Type 0
IsAscending [] = Unit {0}
IsAscending (e ∷ es) = AreAbove e.key es × IsAscending es
