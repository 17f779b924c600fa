-- A function's locals are its parameters and the others.
use Rattle.mv_type_states.proofs.Common.{ℕ, ◌++◌, ◌∙◌, ◌≡◌, IfSome, List, Option, Some, ap, slice_get, sym, MatchOption-at_some, FunctionDefinition, Module, local_type, ◌>>=◌, Token}
use Rattle.mv_move_types.specs.Module.{parameter_tokens, local_tokens}
use Rattle.mv_bound_rules.proofs.FunctionLemmas.{tokens_are}

pub local_tokens-are : (m : Module) (f : ℕ) (d : FunctionDefinition) (parameters others : List Token) → slice_get m.functions f ≡ Some d
    → IfSome (slice_get m.functions f) (λ d. parameter_tokens m d ≡ Some parameters)
    → IfSome (slice_get m.functions f) (λ d. slice_get m.signatures d.locals ≡ Some others) → local_tokens m d ≡ Some (parameters ++ others)
local_tokens-are m f d parameters others at known rest =
    tokens_are m d parameters others (MatchOption-at_some _ (λ (x : FunctionDefinition). parameter_tokens m x ≡ Some parameters) d at known)
    (MatchOption-at_some _ (λ (x : FunctionDefinition). slice_get m.signatures x.locals ≡ Some others) d at rest)

-- the type of one of them
pub local_type-is : (m : Module) (d : FunctionDefinition) (tokens : List Token) (l : ℕ) (found : Option Token) → local_tokens m d ≡ Some tokens → found ≡ slice_get tokens l → local_type m d l ≡ found
local_type-is m d tokens l found are is = ap (λ o. o >>= λ tokens. slice_get tokens l) are ∙ sym is
