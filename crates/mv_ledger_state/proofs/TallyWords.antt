-- Words of tallies that proofs alone speak of.
use Rattle.std.specs.Prelude.{IsSome, List}
use Rattle.mv_move_types.specs.Module.{Module, name_at}
use Rattle.mv_machine.specs.declared.Tally.{Tally}

-- a struct of the modules has this tally
abbrev pub IsNamed : List Module → Tally → Type 0
IsNamed modules t = IsSome (name_at modules t.place t.index)
