-- Calls that a run may begin with.
use Rattle.std.specs.Prelude.{◌≡◌, List, [], ◌++◌, Some, None, slice_get}
use Rattle.mv_move_types.specs.declared.token.Token.{Token}
use Rattle.mv_move_types.specs.Module.{Module, FunctionDefinition, local_tokens}
use Rattle.mv_move_types.specs.Tags.{Tag}
use Rattle.mv_machine.specs.Run.{FunctionCall}
use Rattle.mv_type_rules.specs.TypesAt.{TypesAt}
use Rattle.mv_soundness.specs.Typing.HasType.{Roots}
use Rattle.mv_soundness.specs.Typing.StateTyped.{HaveTokens, result_tags}

-- nothing stands anywhere
abbrev pub Nowhere : Roots
Nowhere root = None

-- a call of a function that is there, with arguments of its parameters' types, which are no references
pub record CallTyped (modules : List Module) (call : FunctionCall) : Type 0 where
  pub home : Module
  pub function : FunctionDefinition
  pub parameters : List Token
  pub others : List Token
  pub results : List Tag
  pub is_home : slice_get modules call.function.place ≡ Some home
  pub is_function : slice_get home.functions call.function.index ≡ Some function
  pub are_others : slice_get home.signatures function.locals ≡ Some others
  pub are_tokens : local_tokens home function ≡ Some (parameters ++ others)
  pub are_results : result_tags home function ≡ Some results
  pub arguments : HaveTokens modules Nowhere home call.arguments parameters
  pub starts : TypesAt home function 0 []
