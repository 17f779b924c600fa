-- Each acquires list is exactly the structs that its function reaches in the storage.
use Rattle.std.specs.Prelude.{ℕ, ◌==◌, List, [], ◌∷◌, Bool, ◌&&◌, flat_map, IsTrue}
use Rattle.std.specs.List.{list_any, list_all}
use Rattle.mv_move_types.specs.declared.instruction.Instruction.{Instruction}
use Rattle.mv_move_types.specs.declared.instruction.Instruction.TheVariants.{Call, MutBorrowGlobal, ImmBorrowGlobal, MoveFrom}
use Rattle.mv_move_types.specs.Module.{Module, FunctionDefinition, has_key, own_acquires}
use Rattle.mv_bound_rules.specs.Definitions.{all_differ}

-- the struct definitions that an instruction reaches in the storage, itself or by a call in the own module
abbrev pub reached_by : Module → Instruction → List ℕ
reached_by m (MoveFrom i) = i ∷ []
reached_by m (MutBorrowGlobal i) = i ∷ []
reached_by m (ImmBorrowGlobal i) = i ∷ []
reached_by m (Call i) = own_acquires m i
reached_by m _ = []

-- whether a number is in a list
abbrev pub has_member : List ℕ → ℕ → Bool
has_member xs x = list_any (λ y. y == x) xs

-- whether two lists have the same numbers
abbrev pub same_members : List ℕ → List ℕ → Bool
same_members xs ys = list_all (has_member ys) xs && list_all (has_member xs) ys

-- the list has no entry twice, only structs with key, and exactly those that the code reaches
abbrev pub acquires_are_right : Module → FunctionDefinition → Bool
acquires_are_right m d =
    all_differ ◌==◌ d.acquires && list_all (has_key m) d.acquires && same_members d.acquires (flat_map (reached_by m) d.code)

-- in every function
abbrev pub AcquiresHold : Module → Type 0
AcquiresHold m = IsTrue (list_all (acquires_are_right m) m.functions)
