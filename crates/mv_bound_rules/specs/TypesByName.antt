-- Types by names, so that types of two modules can be compared.
--   value_type_named, token_named m t   a type by names, without references and with them; nothing if a handle isn't there
--   tokens_named, signature_named       the same of a list and of a signature
--   both_there same a b                 two values are there, and are one by the test
--   same_signature m i n j              two signatures of two modules list the same types
--   same_types m ts n us                two lists of types are the same, type by type
use Rattle.std.specs.Prelude.{ℕ, Bool, true, false, ◌&&◌, List, [], ◌∷◌, Option, Some, slice_get}
use Rattle.std.specs.Option.{option_map_or}
use Rattle.mv_move_types.specs.declared.token.ValueType.{ValueType}
use Rattle.mv_move_types.specs.declared.token.ValueType.TheVariants.{OfLeaf, OfStruct}
use Rattle.mv_move_types.specs.declared.token.Token.{Token}
use Rattle.mv_move_types.specs.declared.token.Token.TheVariants.{Plain, Reference, MutableReference}
use Rattle.mv_move_types.specs.Options.{◌>>=◌}
use Rattle.mv_move_types.specs.Module.{Module, struct_name}
use Rattle.mv_move_types.specs.Tags.{Tag, LeafTag, StructTag, ReferenceTag, same_tag, same_tags}

-- a type that is no reference, by names
abbrev pub value_type_named : Module → ValueType → Option Tag
value_type_named m (OfLeaf kind) = Some (LeafTag kind)
value_type_named m (OfStruct h) = struct_name m h >>= λ name. Some (StructTag name)

-- a type by names
abbrev pub token_named : Module → Token → Option Tag
token_named m (Plain t) = value_type_named m t
token_named m (Reference t) = value_type_named m t >>= λ tag. Some (ReferenceTag false tag)
token_named m (MutableReference t) = value_type_named m t >>= λ tag. Some (ReferenceTag true tag)

-- the types of a list, by names
abbrev pub tokens_named : Module → List Token → Option (List Tag)
tokens_named m [] = Some []
tokens_named m (t ∷ ts) = do
  tag ← token_named m t
  tags ← tokens_named m ts
  Some (tag ∷ tags)

-- a signature's types by names
abbrev pub signature_named : Module → ℕ → Option (List Tag)
signature_named m i = slice_get m.signatures i >>= tokens_named m

-- whether two values are there and are one by the test
abbrev pub both_there : {A B : Type 0} → (A → B → Bool) → Option A → Option B → Bool
both_there same a b = option_map_or (λ x. option_map_or (same x) b false) a false

-- whether two signatures of two modules are there and list the same types
abbrev pub same_signature : Module → ℕ → Module → ℕ → Bool
same_signature m i n j = both_there same_tags (signature_named m i) (signature_named n j)

-- whether two lists of types are there and are one, type by type
abbrev pub same_types : Module → List Token → Module → List Token → Bool
same_types m [] n [] = true
same_types m [] n (u ∷ us) = false
same_types m (t ∷ ts) n [] = false
same_types m (t ∷ ts) n (u ∷ us) = both_there same_tag (token_named m t) (token_named n u) && same_types m ts n us
