-- Availabilities joined place by place are the least above both.
-- It stands in specs/, since a trait's laws may cite nothing of their own crate but its specs/.
use Rattle.std.specs.Prelude.{◌≡◌, true, List, [], ◌∷◌, length}
use Rattle.std.proofs.Common.{refl, arith}
use Rattle.std.proofs.lemmas.Bool.{and_parts}
use Rattle.mv_move_types.specs.declared.borrow.Availability.{Availability}
use Rattle.mv_move_types.specs.declared.borrow.Availability.TheVariants.{Unavailable, Available, Maybe}
use Rattle.mv_certificate_rules.specs.LocalsRules.{availability_leq, locals_leq}
use Rattle.mv_locals_safety.specs.Domain.{least_above, joined}

left_one : (x y : Availability) → availability_leq x (least_above x y) ≡ true
left_one Unavailable Unavailable = refl
left_one Unavailable Available = refl
left_one Unavailable Maybe = refl
left_one Available Unavailable = refl
left_one Available Available = refl
left_one Available Maybe = refl
left_one Maybe Unavailable = refl
left_one Maybe Available = refl
left_one Maybe Maybe = refl

pub joined_left : (a b : List Availability) → length a ≡ length b → locals_leq a (joined a b) ≡ true
joined_left [] [] h = refl
joined_left [] (y ∷ b) h = absurd (omega arith)
joined_left (x ∷ a) [] h = absurd (omega arith)
joined_left (x ∷ a) (y ∷ b) h = rw (left_one x y) (joined_left a b (omega arith))

pub joined_length : (a b : List Availability) → length a ≡ length b → length (joined a b) ≡ length a
joined_length [] [] h = refl
joined_length [] (y ∷ b) h = absurd (omega arith)
joined_length (x ∷ a) [] h = absurd (omega arith)
joined_length (x ∷ a) (y ∷ b) h = let more = joined_length a b (omega arith) in omega (arith, more)

right_one : (x y : Availability) → availability_leq y (least_above x y) ≡ true
right_one Unavailable Unavailable = refl
right_one Unavailable Available = refl
right_one Unavailable Maybe = refl
right_one Available Unavailable = refl
right_one Available Available = refl
right_one Available Maybe = refl
right_one Maybe Unavailable = refl
right_one Maybe Available = refl
right_one Maybe Maybe = refl

pub joined_right : (a b : List Availability) → length a ≡ length b → locals_leq b (joined a b) ≡ true
joined_right [] [] h = refl
joined_right [] (y ∷ b) h = absurd (omega arith)
joined_right (x ∷ a) [] h = absurd (omega arith)
joined_right (x ∷ a) (y ∷ b) h = rw (right_one x y) (joined_right a b (omega arith))

least_one : (x y u : Availability) → availability_leq x u ≡ true → availability_leq y u ≡ true → availability_leq (least_above x y) u ≡ true
least_one Unavailable Unavailable u p q = p
least_one Available Available u p q = p
least_one x y Maybe p q = refl
least_one Unavailable Available Unavailable p q = q
least_one Unavailable Available Available p q = p
least_one Unavailable Maybe Unavailable p q = q
least_one Unavailable Maybe Available p q = q
least_one Available Unavailable Unavailable p q = p
least_one Available Unavailable Available p q = q
least_one Available Maybe Unavailable p q = q
least_one Available Maybe Available p q = q
least_one Maybe y Unavailable p q = p
least_one Maybe y Available p q = p

pub joined_least : (a b u : List Availability) → length a ≡ length b → locals_leq a u ≡ true → locals_leq b u ≡ true → locals_leq (joined a b) u ≡ true
joined_least [] [] u h p q = p
joined_least [] (y ∷ b) u h p q = absurd (omega arith)
joined_least (x ∷ a) [] u h p q = absurd (omega arith)
joined_least (x ∷ a) (y ∷ b) [] h p q = absurd (let no : ⊥ = cc in no)
joined_least (x ∷ a) (y ∷ b) (z ∷ u) h p q =
    let ps = and_parts (availability_leq x z) (locals_leq a u) p in
    let qs = and_parts (availability_leq y z) (locals_leq b u) q in
    rw (least_one x y z ps.0 qs.0) (joined_least a b u (omega arith) ps.1 qs.1)
