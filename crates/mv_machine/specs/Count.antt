-- How many values of a struct a value or the storage has, at any depth.
use Rattle.std.specs.Prelude.{ℕ, ◌+◌, [], ◌∷◌, cond}
use Rattle.mv_move_types.specs.Names.{StructName, same_struct}
use Rattle.mv_machine.specs.Value.{Value, Leaf, Struct, Ref, Values, NoMore, More}
use Rattle.mv_machine.specs.State.{Storage}

-- how many values of the struct a value is and has
abbrev mutual
  pub count_in : StructName → Value → ℕ
  count_in s (Leaf kind n) = 0
  count_in s (Struct name fields) = cond (same_struct name s) 1 0 + count_in_fields s fields
  count_in s (Ref r) = 0

  pub count_in_fields : StructName → Values → ℕ
  count_in_fields s NoMore = 0
  count_in_fields s (More v vs) = count_in s v + count_in_fields s vs

-- the struct's values in the storage
abbrev pub count : Storage → StructName → ℕ
count [] s = 0
count (e ∷ es) s = count_in s e.value + count es s
