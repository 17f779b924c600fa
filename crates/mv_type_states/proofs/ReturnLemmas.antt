-- The types at a return, by the function's results.
use Rattle.mv_type_states.proofs.Common.{[], ◌≡◌, List, Some, refl, reverse, slice_get, FunctionDefinition, Module, result_tokens, same_tokens, FunctionHandle, Token, Types, of_return}
use Rattle.mv_type_states.proofs.Common.{provided}
use Rattle.mv_type_rules.proofs.Steps.{bind_some}

by_handle : (m : Module) (d : FunctionDefinition) (h : FunctionHandle) (rs : List Token) (s : Types) → slice_get m.function_handles d.handle ≡ Some h → slice_get m.signatures h.results ≡ Some rs
    → of_return m d s ≡ provided (same_tokens s (reverse rs)) []
by_handle m d h rs s named there = rw (named, there) refl

pub of_return-results : (m : Module) (d : FunctionDefinition) (rs : List Token) (s : Types) → result_tokens m d ≡ Some rs → of_return m d s ≡ provided (same_tokens s (reverse rs)) []
of_return-results m d rs s e =
    let h = bind_some (slice_get m.function_handles d.handle) _ rs e in by_handle m d h.0 rs s h.1.0 h.1.1
