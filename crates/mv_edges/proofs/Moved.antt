-- What passes a test passes it.
use Rattle.mv_edges.proofs.Common.{◌∷◌, ◌≡◌, Bool, List, [], cond, false, filter, refl, true, and_from, list_all, Edge}

passes_on : (p : Edge → Bool) (e : Edge) (es : List Edge) (b : Bool) → p e ≡ b → list_all p es ≡ true → list_all p (cond b (e ∷ es) es) ≡ true
passes_on p e es true h g = and_from (p e) (list_all p es) h g
passes_on p e es false h g = g

pub all_pass : (p : Edge → Bool) (es : List Edge) → list_all p (filter p es) ≡ true
all_pass p [] = refl
all_pass p (e ∷ es) = passes_on p e (filter p es) (p e) refl (all_pass p es)
