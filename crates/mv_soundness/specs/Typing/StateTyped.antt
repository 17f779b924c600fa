-- Which states are typed: each frame as the rules of types say at its instruction, the storage as its keys say.
--   HasToken, HaveTokens, LocalsHaveTokens   a value, operands and locals are of types of a module
--   result_tags m d                          the types of a function's results, by names
--   Numbered n fs                            the numbers of frames fall from the topmost on, and are below n
--   IsWaiting, AreWaiting                    a frame waits at its Call for the frame above it; and each of these does
--   EntryTyped, StorageTyped                 a stored value is of its key's struct, which has key; and each is
--   Stands h types                           where a step stands all is typed
--   StateTyped modules s                     the state is typed
--   Harmless failure                         a failure that the rules of types don't exclude: an abort, or a lost or frozen fault
--   TurnTyped modules turn                   what a step leads to is typed
use Rattle.std.specs.Prelude.{◌≡◌, ℕ, ◌+◌, ◌<◌, false, IsTrue, List, [], ◌∷◌, ◌++◌, reverse, Option, Some, None, slice_get}
use Rattle.std.specs.Option.{option_map_or}
use Rattle.mv_move_types.specs.declared.token.Token.{Token}
use Rattle.mv_move_types.specs.declared.tables.FunctionHandle.{FunctionHandle}
use Rattle.mv_move_types.specs.declared.instruction.Instruction.TheVariants.{Call}
use Rattle.mv_move_types.specs.Names.{StructName}
use Rattle.mv_move_types.specs.Options.{◌>>=◌}
use Rattle.mv_move_types.specs.Module.{Module, FunctionDefinition, local_tokens, name_at}
use Rattle.mv_machine.specs.Value.{Reference, Value}
use Rattle.mv_machine.specs.State.{Entry, Storage, Frame, State, frames, root_value}
use Rattle.mv_move_types.specs.Tags.{Tag, StructTag}
use Rattle.mv_machine.specs.Typing.{Failure, Aborts, Faults, TypeFault, LinkageFault, DanglingFault, LostFault, FrozenFault}
use Rattle.mv_module_text.specs.Fits.{address_fits}
use Rattle.mv_machine.specs.Typed.{abilities_at}
use Rattle.mv_type_rules.specs.TypesAt.{TypesAt}
use Rattle.mv_type_rules.specs.TypeRules.{Types}
use Rattle.mv_bound_rules.specs.TypesByName.{token_named, tokens_named, signature_named}
use Rattle.mv_machine.specs.Step.{Here, Turn, Goes, Returns}
use Rattle.mv_soundness.specs.Typing.HasType.{Roots, IsOf, HasType, LentHaveTypes, fields_by_name}

-- a value is of a type that a module names
pub record HasToken (modules : List Module) (look : Roots) (home : Module) (v : Value) (t : Token) : Type 0 where
  pub tag : Tag
  pub names : token_named home t ≡ Some tag
  pub typed : HasType (fields_by_name modules) look v tag

module _ (modules : List Module) (look : Roots) (home : Module) where
  -- values are of types, one each
  abbrev pub HaveTokens : List Value → List Token → Type 0
  HaveTokens [] [] = Unit {0}
  HaveTokens [] (t ∷ ts) = ⊥
  HaveTokens (v ∷ vs) [] = ⊥
  HaveTokens (v ∷ vs) (t ∷ ts) = HasToken modules look home v t × HaveTokens vs ts

  -- a local that is held is of its type
  abbrev pub LocalHasToken : Option Value → Token → Type 0
  LocalHasToken None t = Unit {0}
  LocalHasToken (Some v) t = HasToken modules look home v t

  -- each local is, one for each type
  abbrev pub LocalsHaveTokens : List (Option Value) → List Token → Type 0
  LocalsHaveTokens [] [] = Unit {0}
  LocalsHaveTokens [] (t ∷ ts) = ⊥
  LocalsHaveTokens (v ∷ vs) [] = ⊥
  LocalsHaveTokens (v ∷ vs) (t ∷ ts) = LocalHasToken v t × LocalsHaveTokens vs ts

-- the types of a function's results, by names
abbrev pub result_tags : Module → FunctionDefinition → Option (List Tag)
result_tags m d = slice_get m.function_handles d.handle >>= λ h. signature_named m h.results

-- the frames' numbers fall, and are below this one
abbrev pub Numbered : ℕ → List Frame → Type 0
Numbered n [] = Unit {0}
Numbered n (f ∷ fs) = (f.number < n) × Numbered f.number fs

-- a frame waits at a Call, whose results are of these types, and has lent these arguments
pub record IsWaiting (modules : List Module) (look : Roots) (lent : List (Option Reference)) (given : List Tag) (f : Frame) : Type 0 where
  pub home : Module
  pub function : FunctionDefinition
  pub tokens : List Token
  pub handle : ℕ
  pub parameters : List Token
  pub results : List Token
  pub under : Types
  pub parameter_tags : List Tag
  pub own_results : List Tag
  pub is_home : slice_get modules f.function.place ≡ Some home
  pub is_function : slice_get home.functions f.function.index ≡ Some function
  pub are_tokens : local_tokens home function ≡ Some tokens
  pub are_own_results : result_tags home function ≡ Some own_results
  pub is_call : slice_get function.code f.at ≡ Some (Call handle)
  pub called : FunctionHandle
  pub is_called : slice_get home.function_handles handle ≡ Some called
  pub called_parameters : slice_get home.signatures called.parameters ≡ Some parameters
  pub called_results : slice_get home.signatures called.results ≡ Some results
  -- before the Call the arguments are on the stack, and after it the results
  pub before : TypesAt home function f.at (reverse parameters ++ under)
  pub after : TypesAt home function (f.at + 1) (reverse results ++ under)
  pub are_parameters : tokens_named home parameters ≡ Some parameter_tags
  pub are_results : tokens_named home results ≡ Some given
  pub locals : LocalsHaveTokens modules look home f.locals tokens
  pub stack : HaveTokens modules look home f.stack under
  pub arguments : LentHaveTypes (fields_by_name modules) look lent parameter_tags

-- each of these frames waits for the one above it
abbrev pub AreWaiting : List Module → Roots → List (Option Reference) → List Tag → List Frame → Type 0
AreWaiting modules look lent given [] = Unit {0}
AreWaiting modules look lent given (f ∷ fs) =
    (w : IsWaiting modules look lent given f) × AreWaiting modules look f.entered_with w.own_results fs

-- a stored value is one of its key's struct, which has key, at an address
pub record EntryTyped (modules : List Module) (e : Entry) : Type 0 where
  pub name : StructName
  pub fits : IsTrue (address_fits e.key.address)
  pub is_named : name_at modules e.key.place e.key.index ≡ Some name
  pub has_key : IsTrue (option_map_or (λ a. a.key) (abilities_at modules e.key.place e.key.index) false)
  pub typed : IsOf (fields_by_name modules) e.value (StructTag name)

-- each is
abbrev pub StorageTyped : List Module → Storage → Type 0
StorageTyped modules [] = Unit {0}
StorageTyped modules (e ∷ es) = EntryTyped modules e × StorageTyped modules es

-- where a step stands all is typed, and the operands have these types
pub record Stands (h : Here) (types : Types) : Type 0 where
  pub tokens : List Token
  pub results : List Tag
  pub numbered : Numbered h.state.entered (frames h.state)
  pub are_tokens : local_tokens h.home h.function ≡ Some tokens
  pub are_results : result_tags h.home h.function ≡ Some results
  pub locals : LocalsHaveTokens h.modules (root_value h.state) h.home h.state.top.locals tokens
  pub stack : HaveTokens h.modules (root_value h.state) h.home h.state.top.stack types
  pub below : AreWaiting h.modules (root_value h.state) h.state.top.entered_with results h.state.below
  pub storage : StorageTyped h.modules h.state.storage

-- the state is typed
pub record StateTyped (modules : List Module) (s : State) : Type 0 where
  pub home : Module
  pub function : FunctionDefinition
  pub types : Types
  pub is_home : slice_get modules s.top.function.place ≡ Some home
  pub is_function : slice_get home.functions s.top.function.index ≡ Some function
  pub are_types : TypesAt home function s.top.at types
  pub stands : Stands (record { modules = modules; home = home; function = function; state = s }) types

-- a failure that the rules of types don't exclude
abbrev pub Harmless : Failure → Type 0
Harmless (Aborts kind n) = Unit {0}
Harmless (Faults TypeFault) = ⊥
Harmless (Faults LinkageFault) = ⊥
Harmless (Faults DanglingFault) = ⊥
Harmless (Faults LostFault) = Unit {0}
Harmless (Faults FrozenFault) = Unit {0}

-- what a step leads to is typed
abbrev pub TurnTyped : List Module → Turn → Type 0
TurnTyped modules (Goes s) = StateTyped modules s
TurnTyped modules (Returns s) = StorageTyped modules s.storage
