-- What the tests of types by names mean.
use Rattle.mv_link_rules.proofs.Common.{[], ◌∷◌, ◌≡◌, LeafTag, List, ReferenceTag, StructTag, Tag, and_from, ap, ap₂, beq}
use Rattle.mv_link_rules.proofs.Common.{booleans_Decides, eq-eqb, first_so, refl, same_tag, same_tags, second_so, true}
use Rattle.mv_move_types.specs.Tokens.{kind_code}
use Rattle.mv_bound_rules.proofs.Tokens.{kinds_equal}
use Rattle.mv_bound_rules.proofs.NameLemmas.{same_struct-is, same_struct-same}

pub same_tag-is : (a b : Tag) → same_tag a b ≡ true → a ≡ b
same_tag-is (LeafTag j) (LeafTag k) e = ap LeafTag (kinds_equal j k e)
same_tag-is (StructTag m) (StructTag n) e = ap StructTag (same_struct-is m n e)
same_tag-is (ReferenceTag i a) (ReferenceTag j b) e =
    ap₂ ReferenceTag ((booleans_Decides i j).0 (first_so (beq i j) (same_tag a b) e)) (same_tag-is a b (second_so (beq i j) (same_tag a b) e))
same_tag-is _ _ e = absurd cc

pub same_tag-same : (a : Tag) → same_tag a a ≡ true
same_tag-same (LeafTag k) = eq-eqb (kind_code k) (kind_code k) refl
same_tag-same (StructTag n) = same_struct-same n
same_tag-same (ReferenceTag i a) = and_from (beq i i) (same_tag a a) ((booleans_Decides i i).1 refl) (same_tag-same a)

pub same_tags-is : (as' bs : List Tag) → same_tags as' bs ≡ true → as' ≡ bs
same_tags-is [] [] e = refl
same_tags-is (a ∷ as') (b ∷ bs) e = ap₂ (λ x xs. x ∷ xs) (same_tag-is a b (first_so (same_tag a b) (same_tags as' bs) e)) (same_tags-is as' bs (second_so (same_tag a b) (same_tags as' bs) e))
same_tags-is _ _ e = absurd cc

pub same_tags-same : (as' : List Tag) → same_tags as' as' ≡ true
same_tags-same [] = refl
same_tags-same (a ∷ as') = and_from (same_tag a a) (same_tags as' as') (same_tag-same a) (same_tags-same as')
