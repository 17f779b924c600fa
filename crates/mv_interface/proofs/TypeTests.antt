-- Lists of types are compared type by type.
use Rattle.mv_interface.proofs.Common.{[], ◌&&◌, ◌>>=◌, ◌∙◌, ◌∷◌, ◌≡◌, List, Module, Option, Some, Tag, Token, ap, arith, both_there, false, refl, same_tag, same_tags, same_types}
use Rattle.mv_interface.proofs.Common.{token_named, tokens_named}

step : (a b : Option Tag) (as' bs : Option (List Tag)) → (both_there same_tag a b && both_there same_tags as' bs)
    ≡ both_there same_tags (a >>= λ tag. as' >>= λ tags. Some (tag ∷ tags)) (b >>= λ tag. bs >>= λ tags. Some (tag ∷ tags))
step a b as' bs = grind arith

nothing : (b : Option Tag) (bs : Option (List Tag)) → (false ≡ both_there same_tags (Some []) (b >>= λ tag. bs >>= λ tags. Some (tag ∷ tags)))
    × (false ≡ both_there same_tags (b >>= λ tag. bs >>= λ tags. Some (tag ∷ tags)) (Some []))
nothing b bs = (grind arith, grind arith)

pub same_types_is : (m n : Module) (ts us : List Token) → same_types m ts n us ≡ both_there same_tags (tokens_named m ts) (tokens_named n us)
same_types_is m n [] [] = refl
same_types_is m n [] (u ∷ us) = (nothing (token_named n u) (tokens_named n us)).0
same_types_is m n (t ∷ ts) [] = (nothing (token_named m t) (tokens_named m ts)).1
same_types_is m n (t ∷ ts) (u ∷ us) =
    ap (λ b. both_there same_tag (token_named m t) (token_named n u) && b) (same_types_is m n ts us)
    ∙ step (token_named m t) (token_named n u) (tokens_named m ts) (tokens_named n us)
