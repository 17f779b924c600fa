-- What a refusal says.
use Rattle.std.specs.Prelude.{◌≡◌, ℕ, ⊤}
use Rattle.mv_move_types.specs.declared.refusal.Refusal.{Refusal}
use Rattle.mv_move_types.specs.declared.refusal.Refusal.TheVariants.{Phase, Memory}

-- memory ran out, or this holds of the phase that is named
abbrev pub IsRefusedBy : (ℕ → Type 0) → Refusal → Type 0
IsRefusedBy fails (Phase p) = fails p
IsRefusedBy fails Memory = ⊤

-- the phase is this one and its rules don't hold, or memory ran out
abbrev pub IsRefusedIn : ℕ → Type 0 → Refusal → Type 0
IsRefusedIn phase rules e = IsRefusedBy (λ p. (p ≡ phase) × (rules → ⊥)) e
