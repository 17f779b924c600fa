-- The order of availabilities, place by place.
use Rattle.std.proofs.Common.{◌≡◌, ◌&&◌, List, [], ◌∷◌, length, refl, ap, arith}
use Rattle.std.specs.List.{zip, list_all}
use Rattle.mv_move_types.specs.declared.borrow.Availability.{Availability}
use Rattle.mv_certificate_rules.specs.LocalsRules.{availability_leq, locals_leq}

pub leq_zipped : (a b : List Availability) → length a ≡ length b → locals_leq a b ≡ list_all (λ p. availability_leq p.0 p.1) (zip a b)
leq_zipped [] [] h = refl
leq_zipped [] (y ∷ b) h = absurd (omega arith)
leq_zipped (x ∷ a) [] h = absurd (omega arith)
leq_zipped (x ∷ a) (y ∷ b) h = ap (λ r. availability_leq x y && r) (leq_zipped a b (omega arith))
