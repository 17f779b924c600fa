-- A refusal, where what it says is weakened.
use Rattle.std.specs.Prelude.{◌≡◌, ℕ}
use Rattle.std.proofs.Common.{sym, subst}
use Rattle.mv_move_types.specs.Refusals.{IsRefusedBy, IsRefusedIn}
use Rattle.mv_move_types.specs.declared.refusal.Refusal.{Refusal}
use Rattle.mv_move_types.specs.declared.refusal.Refusal.TheVariants.{Phase, Memory}

-- what says less of each phase says less of the refusal
pub refused-weaker : (A B : ℕ → Type 0) (e : Refusal) → ((p : ℕ) → A p → B p) → IsRefusedBy A e → IsRefusedBy B e
refused-weaker A B (Phase p) weaker r = weaker p r
refused-weaker A B Memory weaker r = tt

-- what is refused for a part is refused for the whole
pub refused-wider : (phase : ℕ) (part whole : Type 0) (e : Refusal) → (whole → part) → IsRefusedIn phase part e → IsRefusedIn phase whole e
refused-wider phase part whole e narrow =
    refused-weaker (λ p. (p ≡ phase) × (part → ⊥)) (λ p. (p ≡ phase) × (whole → ⊥)) e (λ p r. (r.0, λ h. r.1 (narrow h)))

-- a refusal in a phase, told as a failure of that phase
pub refused-as : (phase : ℕ) (rules : Type 0) (Fails : ℕ → Type 0) (e : Refusal) → ((rules → ⊥) → Fails phase) → IsRefusedIn phase rules e → IsRefusedBy Fails e
refused-as phase rules Fails e so = refused-weaker (λ p. (p ≡ phase) × (rules → ⊥)) Fails e (λ p r. subst Fails (sym r.0) (so r.1))
