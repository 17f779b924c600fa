-- What a partial step over types has, where it gives something.
use Rattle.mv_type_rules.proofs.Common.{[], ◌∷◌, ◌≡◌, Bool, None, Option, Some, ap, false, refl, same_Some, true, Token, Types}
use Rattle.std.proofs.lemmas.Option.{none-some}
use Rattle.mv_move_types.specs.Options.{◌>>=◌}
use Rattle.mv_type_rules.specs.TypeRules.{provided, top_type}

-- what goes on with a value has one
pub bind_some : {A B : Type 0} (o : Option A) (f : A → Option B) (y : B) → (o >>= f) ≡ Some y → (x : A) × ((o ≡ Some x) × (f x ≡ Some y))
bind_some None f y e = absurd (none-some y e)
bind_some (Some x) f y e = (x, (refl, e))

pub provided_true : (b : Bool) (s t : Types) → provided b s ≡ Some t → (b ≡ true) × (s ≡ t)
provided_true true s t e = (refl, same_Some s t e)
provided_true false s t e = absurd (none-some t e)

pub top_some : (s : Types) (top : Token × Types) → top_type s ≡ Some top → s ≡ top.0 ∷ top.1
top_some [] top e = absurd (none-some top e)
top_some (x ∷ s) top e = let same = same_Some (x, s) top e in ap (λ (p : Token × Types). p.0 ∷ p.1) same
