-- Locals as what is known of them says, and values that may be dropped as their types may.
use Rattle.std.specs.Prelude.{◌≡◌, true, List, [], ◌∷◌, Option, Some, None, ⊤}
use Rattle.mv_move_types.specs.declared.borrow.Availability.{Availability}
use Rattle.mv_move_types.specs.declared.token.Token.{Token}
use Rattle.mv_machine.specs.Value.{Value}
use Rattle.mv_machine.specs.StepParts.{Here, can_drop}
use Rattle.mv_type_rules.specs.TypesHold.{Point}
use Rattle.mv_certificate_rules.specs.LocalsRules.{has_drop}
use Rattle.mv_soundness.specs.Borrows.Covers.{IsAs}

-- as many locals as availabilities, and each as its own says
abbrev pub AsKnown : List Availability → List (Option Value) → Type 0
AsKnown [] [] = ⊤
AsKnown [] (x ∷ xs) = ⊥
AsKnown (a ∷ as') [] = ⊥
AsKnown (a ∷ as') (x ∷ xs) = IsAs a x × AsKnown as' xs

-- a value may be dropped if its type may
abbrev pub DropFits : Here → Point → List Token → List (Option Value) → Type 0
DropFits h p (t ∷ ts) (Some v ∷ xs) = (has_drop p t ≡ true → can_drop h v ≡ true) × DropFits h p ts xs
DropFits h p (t ∷ ts) (None ∷ xs) = DropFits h p ts xs
DropFits h p [] [] = ⊤
DropFits h p [] (x ∷ xs) = ⊥
DropFits h p (t ∷ ts) [] = ⊥
