-- What the accepted modules give to each step: the facts of types and links that the rules rest on.
use Rattle.std.specs.Prelude.{◌≡◌, ℕ, Bool, true, not, nat_lt, length, IsTrue, List, [], ◌∷◌, ◌++◌, map, Some, Ok, slice_get}
use Rattle.std.specs.List.{list_all}
use Rattle.mv_move_types.specs.declared.token.LeafKind.{LeafKind}
use Rattle.mv_move_types.specs.declared.token.ValueType.TheVariants.{OfLeaf}
use Rattle.mv_move_types.specs.declared.token.Token.{Token}
use Rattle.mv_move_types.specs.declared.token.Token.TheVariants.{Plain}
use Rattle.mv_move_types.specs.declared.tables.FunctionHandle.{FunctionHandle}
use Rattle.mv_move_types.specs.declared.instruction.Instruction.{Instruction}
use Rattle.mv_move_types.specs.Module.{Module, Constant, StructDefinition, FunctionDefinition, local_tokens, struct_name, struct_abilities, name_at}
use Rattle.mv_move_types.specs.Numbers.{leaf_number}
use Rattle.mv_machine.specs.State.{State}
use Rattle.mv_move_types.specs.Tags.{Tag}
use Rattle.mv_machine.specs.Typing.{tag_named}
use Rattle.mv_move_types.specs.Flow.{successors}
use Rattle.mv_type_rules.specs.TypeRules.{Types, types_after}
use Rattle.mv_bound_rules.specs.TypesByName.{token_named, tokens_named}
use Rattle.mv_module_text.specs.Fits.{instruction_fits}
use Rattle.mv_machine.specs.Step.{Here, OwnStruct, own_struct, is_reference_tag}
use Rattle.mv_machine.specs.StepControl.{Callee, callee}
use Rattle.mv_soundness.specs.Typing.HasType.{in_range, fields_by_name}
use Rattle.mv_type_rules.specs.TypesAt.{TypesAt}
use Rattle.mv_soundness.specs.Typing.StateTyped.{Stands, result_tags}

-- no type is a reference's
abbrev pub are_plain : List Tag → Bool
are_plain = list_all (λ t. not (is_reference_tag t))

-- a struct definition of the own module is found, and is the one that its name stands for
pub record OwnFacts (h : Here) (i : ℕ) (d : StructDefinition) : Type 0 where
  pub struct : OwnStruct
  pub tags : List Tag
  pub is_found : own_struct h i ≡ Ok struct
  pub fields : struct.fields ≡ d.fields
  pub is_named : struct_name h.home d.handle ≡ Some struct.name
  pub abilities : struct_abilities h.home d ≡ Some struct.abilities
  pub are_tags : tokens_named h.home (map (λ f. f.token) d.fields) ≡ Some tags
  pub by_name : fields_by_name h.modules struct.name ≡ Some tags
  pub plain : are_plain tags ≡ true
  pub key : name_at h.modules h.state.top.function.place i ≡ Some struct.name

-- a function that a handle names is found, with the types that the handle says
pub record CallFacts (h : Here) (i : ℕ) (handle : FunctionHandle) (parameters results : List Token) : Type 0 where
  pub callee_is : Callee
  pub own_parameters : List Token
  pub others : List Token
  pub is_found : callee h i ≡ Ok callee_is
  pub parameter_tags : tokens_named h.home parameters ≡ Some callee_is.parameters
  pub result_names : tokens_named h.home results ≡ Some callee_is.results
  pub is_home : slice_get h.modules callee_is.function.place ≡ Some callee_is.home
  pub is_function : slice_get callee_is.home.functions callee_is.function.index ≡ Some callee_is.definition
  pub are_others : slice_get callee_is.home.signatures callee_is.definition.locals ≡ Some others
  pub are_tokens : local_tokens callee_is.home callee_is.definition ≡ Some (own_parameters ++ others)
  pub own_parameter_tags : tokens_named callee_is.home own_parameters ≡ Some callee_is.parameters
  pub own_results : result_tags callee_is.home callee_is.definition ≡ Some callee_is.results
  pub starts : TypesAt callee_is.home callee_is.definition 0 []

-- a constant is a leaf of its type
pub record ConstantFacts (c : Constant) : Type 0 where
  pub kind : LeafKind
  pub number : ℕ
  pub is_leaf : c.token ≡ Plain (OfLeaf kind)
  pub is_number : leaf_number kind c.bytes ≡ Some number
  pub fits : IsTrue (in_range kind number)

-- a type that a module names has a tag
pub record Named (home : Module) (t : Token) : Type 0 where
  pub tag : Tag
  pub names : token_named home t ≡ Some tag

-- what the module at work and the store give
pub record Facts (h : Here) : Type 0 where
  pub tag : (t : Token) (tag : Tag) → token_named h.home t ≡ Some tag → tag_named h.modules h.home t ≡ Ok tag
  pub local_names : (tokens : List Token) (l : ℕ) (t : Token) → local_tokens h.home h.function ≡ Some tokens → slice_get tokens l ≡ Some t → Named h.home t
  pub own : (i : ℕ) (d : StructDefinition) → slice_get h.home.structs i ≡ Some d → OwnFacts h i d
  pub call : (i : ℕ) (handle : FunctionHandle) (parameters results : List Token) → slice_get h.home.function_handles i ≡ Some handle
      → slice_get h.home.signatures handle.parameters ≡ Some parameters → slice_get h.home.signatures handle.results ≡ Some results
      → CallFacts h i handle parameters results
  pub constant : (i : ℕ) (c : Constant) → slice_get h.home.constants i ≡ Some c → ConstantFacts c

-- the types at each of these places
abbrev pub AllAt : Module → FunctionDefinition → Types → List ℕ → Type 0
AllAt m d types [] = Unit {0}
AllAt m d types (t ∷ ts) = TypesAt m d t types × AllAt m d types ts

-- a step stands at an instruction, which finds these types and leaves those
pub record Row (h : Here) (i : Instruction) (types after : Types) : Type 0 where
  pub facts : Facts h
  pub is_home : slice_get h.modules h.state.top.function.place ≡ Some h.home
  pub is_function : slice_get h.home.functions h.state.top.function.index ≡ Some h.function
  pub is_next : slice_get h.function.code h.state.top.at ≡ Some i
  pub before : TypesAt h.home h.function h.state.top.at types
  pub stands : Stands h types
  pub rule : types_after h.home h.function i types ≡ Some after
  pub fits : IsTrue (instruction_fits h.home.version i)
  pub leads : AllAt h.home h.function after (successors h.state.top.at i)

-- a typed instruction of a function is there, finds what it needs, and leads to typed instructions in the code
pub record Advance (m : Module) (d : FunctionDefinition) (at : ℕ) (types : Types) : Type 0 where
  pub instruction : Instruction
  pub after : Types
  pub is_there : slice_get d.code at ≡ Some instruction
  pub rule : types_after m d instruction types ≡ Some after
  pub leads : AllAt m d after (successors at instruction)
  pub inside : list_all (λ t. nat_lt t (length d.code)) (successors at instruction) ≡ true
  pub fits : IsTrue (instruction_fits m.version instruction)

-- what the accepted modules together give to every step
pub record SoundStore (modules : List Module) : Type 0 where
  pub facts : (home : Module) (function : FunctionDefinition) (s : State) → slice_get modules s.top.function.place ≡ Some home → slice_get home.functions s.top.function.index ≡ Some function →
      Facts (record { modules = modules; home = home; function = function; state = s })
  pub advance : (place index at : ℕ) (m : Module) (d : FunctionDefinition) (types : Types) → slice_get modules place ≡ Some m
      → slice_get m.functions index ≡ Some d → TypesAt m d at types → Advance m d at types
