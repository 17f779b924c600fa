-- The types of a function's parameters, as the linker keeps them, where a run's arguments are tried.
use Rattle.mv_move_types.specs.declared.token.LeafKind.TheVariants.{Boolean}
use Rattle.mv_move_types.specs.declared.token.Token.{Token}
use Rattle.mv_move_types.specs.declared.token.Token.TheVariants as T
use Rattle.mv_move_types.specs.declared.token.ValueType.TheVariants.{OfLeaf}
use Rattle.mv_interface.specs.declared.interface.LinkedType.{LinkedType}
use Rattle.mv_interface.specs.declared.interface.LinkedType.TheVariants.{Plain}
use Rattle.mv_interface.specs.declared.shapes.Part.TheVariants.{Leaf}

-- the type that an argument is tried against: that of a leaf, or one that no argument has
abbrev pub asked_type : LinkedType → Token
asked_type (Plain (Leaf kind)) = T.Plain (OfLeaf kind)
asked_type _ = T.Reference (OfLeaf Boolean)
