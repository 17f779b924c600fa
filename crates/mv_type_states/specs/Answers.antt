-- What a step over a stack's types answers.
--   Follows answer after new   the types after are the new ones, or it is refused in phase 8 where there are none
--   Finds answer found         what is found, or it is refused in phase 8 where there is none
--   TakesTop answer old new    the topmost of the old types, and the new ones are those below it
use Rattle.std.specs.Prelude.{◌≡◌, [], ◌∷◌, Option, Some, None, Result, Ok, Err}
use Rattle.mv_move_types.specs.Refusals.{IsRefusedBy}
use Rattle.mv_move_types.specs.declared.refusal.Refusal.{Refusal}
use Rattle.mv_move_types.specs.declared.refusal.Refusal.TheVariants.{Phase, Memory}
use Rattle.mv_move_types.specs.declared.token.Token.{Token}
use Rattle.mv_type_rules.specs.TypeRules.{Types}

-- the types after are these, or it is refused in phase 8 where there are none
abbrev pub Follows : Result (Unit {0}) Refusal → Option Types → Types → Type 0
Follows (Ok done) after new = after ≡ Some new
Follows (Err e) after new = IsRefusedBy (λ p. (p ≡ 8) × (after ≡ None)) e

-- this is found, or it is refused in phase 8 where there is none
abbrev pub Finds : {A : Type 0} → Result A Refusal → Option A → Type 0
Finds (Ok x) found = found ≡ Some x
Finds (Err (Phase p)) found = (p ≡ 8) × (found ≡ None)
Finds (Err Memory) found = ⊥

-- the topmost type is taken, or it is refused in phase 8 where there is none
abbrev pub TakesTop : Result Token Refusal → Types → Types → Type 0
TakesTop (Ok t) old new = old ≡ t ∷ new
TakesTop (Err (Phase p)) old new = (p ≡ 8) × (old ≡ [])
TakesTop (Err Memory) old new = ⊥
