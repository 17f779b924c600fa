-- What is kept of a module beside its text and its code, so that nothing reads its bytes again: its outline, and its types, in which
-- a struct stands as where it is defined. All lists are in the order of the definitions.
--   IsType modules m t type               a type of a module, as it is kept
--   IsInterface modules m interface       the interface is the module's
--   IsSignatureAt modules place index s   what a call from outside asks of the function at an index in the module at a place
use Rattle.std.specs.Prelude.{◌≡◌, ℕ, List, Option, Some, map, slice_get}
use Rattle.std.specs.List.{AllZip}
use Rattle.mv_move_types.specs.declared.tables.Definition.{Definition}
use Rattle.mv_move_types.specs.declared.token.Token.{Token}
use Rattle.mv_move_types.specs.declared.token.Token.TheVariants.{Plain, Reference, MutableReference}
use Rattle.mv_move_types.specs.Module.{Module, StructDefinition, FunctionDefinition, parameter_tokens, result_tokens}
use Rattle.mv_interface.specs.declared.interface.Interface.{Interface}
use Rattle.mv_interface.specs.declared.interface.LinkedType.{LinkedType}
use Rattle.mv_interface.specs.declared.interface.LinkedType.TheVariants.{Plain as Value, Reference as ReferenceTo, MutableReference as MutableReferenceTo}
use Rattle.mv_interface.specs.declared.interface.Side.{Side}
use Rattle.mv_interface.specs.declared.interface.Side.TheVariants.{Parameters, Results}
use Rattle.mv_interface.specs.declared.interface.Signature.{Signature}
use Rattle.mv_interface.specs.Outline.{AreEach, FunctionOutline, IsOutline}
use Rattle.mv_interface.specs.Shapes.{AreParts, IsPart, part_by}

-- a type of a module, as it is kept
abbrev pub IsType : List Module → Module → Token → LinkedType → Type 0
IsType modules m (Plain t) (Value part) = IsPart modules m (Plain t) part
IsType modules m (Reference t) (ReferenceTo part) = IsPart modules m (Plain t) part
IsType modules m (MutableReference t) (MutableReferenceTo part) = IsPart modules m (Plain t) part
IsType modules m _ _ = ⊥

-- types, in order
abbrev pub AreTypes : List Module → Module → List Token → List LinkedType → Type 0
AreTypes modules m tokens types = AllZip (IsType modules m) tokens types

-- types that are there are kept as these
pub record AreTypesOf (modules : List Module) (m : Module) (types : Option (List Token)) (kept : List LinkedType) : Type 0 where
  pub tokens : List Token
  pub there : types ≡ Some tokens
  pub are : AreTypes modules m tokens kept

-- the interface is that of a module among modules
pub record IsInterface (modules : List Module) (m : Module) (i : Interface) : Type 0 where
  pub outline : IsOutline m i.outline
  pub parts : AreEach (λ (d : StructDefinition) parts. AreParts modules m d.fields parts) m.structs i.parts
  pub parameters : AreEach (λ (d : FunctionDefinition) types. AreTypesOf modules m (parameter_tokens m d) types) m.functions i.parameters
  pub results : AreEach (λ (d : FunctionDefinition) types. AreTypesOf modules m (result_tokens m d) types) m.functions i.results

-- what a call from outside asks of the function at an index of an interface, if it is there
pub record IsSignatureOf (i : Interface) (index : ℕ) (s : Signature) : Type 0 where
  pub function : FunctionOutline
  pub there : slice_get i.outline.functions index ≡ Some function
  pub entry : function.is_entry ≡ s.is_entry
  pub parameters : slice_get i.parameters index ≡ Some s.parameters.now

-- the same of the function at an index in the module at a place
pub record IsSignatureAt (modules : List Module) (place index : ℕ) (s : Signature) : Type 0 where
  pub home : Module
  pub definition : FunctionDefinition
  pub there : slice_get modules place ≡ Some home
  pub defined : slice_get home.functions index ≡ Some definition
  pub entry : definition.is_entry ≡ s.is_entry
  pub parameters : AreTypesOf modules home (parameter_tokens home definition) s.parameters.now

-- Below: what is computed for them, by where the structs of the handles are defined.

abbrev pub type_by : List Definition → Token → LinkedType
type_by structs (Plain t) = Value (part_by structs (Plain t))
type_by structs (Reference t) = ReferenceTo (part_by structs (Plain t))
type_by structs (MutableReference t) = MutableReferenceTo (part_by structs (Plain t))

abbrev pub types_by : List Definition → List Token → List LinkedType
types_by structs tokens = map (type_by structs) tokens

-- the types of a function's parameters, or of its results
abbrev pub tokens_on : Side → Module → FunctionDefinition → Option (List Token)
tokens_on Parameters m d = parameter_tokens m d
tokens_on Results m d = result_tokens m d
