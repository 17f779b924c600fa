-- Types by names: one tag means one type in every module.
use Rattle.std.specs.Prelude.{Bool, false, ◌&&◌, true, List, [], ◌∷◌}
use Rattle.std.specs.Bool.{beq}
use Rattle.mv_move_types.specs.declared.token.LeafKind.{LeafKind}
use Rattle.mv_move_types.specs.Names.{StructName, same_struct}
use Rattle.mv_move_types.specs.Tokens.{same_kind}

-- what kind of value something is
pub data Tag : Type 0 where
  LeafTag : (kind : LeafKind) → Tag
  StructTag : (name : StructName) → Tag
  ReferenceTag : (is_mutable : Bool) (to : Tag) → Tag

-- whether two tags are one
abbrev pub same_tag : Tag → Tag → Bool
same_tag (LeafTag j) (LeafTag k) = same_kind j k
same_tag (StructTag a) (StructTag b) = same_struct a b
same_tag (ReferenceTag i a) (ReferenceTag j b) = beq i j && same_tag a b
same_tag _ _ = false

-- whether two lists of tags are one
abbrev pub same_tags : List Tag → List Tag → Bool
same_tags [] [] = true
same_tags [] (b ∷ bs) = false
same_tags (a ∷ as') [] = false
same_tags (a ∷ as') (b ∷ bs) = same_tag a b && same_tags as' bs
