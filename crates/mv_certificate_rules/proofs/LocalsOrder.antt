-- The order of availabilities is reflexive.
use Rattle.std.proofs.Common.{◌≡◌, [], ◌∷◌, List, refl, true}
use Rattle.mv_move_types.specs.declared.borrow.Availability.{Availability}
use Rattle.mv_move_types.specs.declared.borrow.Availability.TheVariants.{Available, Maybe, Unavailable}
use Rattle.mv_certificate_rules.specs.LocalsRules.{availability_leq, locals_leq}

pub reflexive_one : (x : Availability) → availability_leq x x ≡ true
reflexive_one Unavailable = refl
reflexive_one Available = refl
reflexive_one Maybe = refl

pub leq_reflexive : (a : List Availability) → locals_leq a a ≡ true
leq_reflexive [] = refl
leq_reflexive (x ∷ a) = rw (reflexive_one x) (leq_reflexive a)
