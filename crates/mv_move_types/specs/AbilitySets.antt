-- The abilities of leaves and references, and when two sets of abilities are one.
use Rattle.std.specs.Prelude.{Bool, ◌&&◌, true, false}
use Rattle.std.specs.Bool.{beq}
use Rattle.mv_move_types.specs.declared.token.Abilities.{Abilities}
use Rattle.mv_move_types.specs.declared.token.LeafKind.{LeafKind}
use Rattle.mv_move_types.specs.declared.token.LeafKind.TheVariants.{Boolean, Number, Address, Signer}

-- whether two sets of abilities are one
abbrev pub same_abilities : Abilities → Abilities → Bool
same_abilities a b = beq a.copy b.copy && beq a.drop b.drop && beq a.store b.store && beq a.key b.key

-- the abilities of a leaf
abbrev pub leaf_abilities : LeafKind → Abilities
leaf_abilities Boolean = record { copy = true; drop = true; store = true; key = false }
leaf_abilities (Number w) = record { copy = true; drop = true; store = true; key = false }
leaf_abilities Address = record { copy = true; drop = true; store = true; key = false }
leaf_abilities Signer = record { copy = false; drop = true; store = false; key = false }

-- the abilities of a reference
abbrev pub reference_abilities : Abilities
reference_abilities = record { copy = true; drop = true; store = false; key = false }

-- no ability at all
abbrev pub no_abilities : Abilities
no_abilities = record { copy = false; drop = false; store = false; key = false }
