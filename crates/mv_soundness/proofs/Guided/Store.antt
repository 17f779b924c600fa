-- A store of accepted modules with their certificates.
use Rattle.std.specs.Prelude.{◌≡◌, ℕ, IsTrue, List, Some, slice_get}
use Rattle.mv_move_types.specs.Module.{Module}
use Rattle.mv_acquires.specs.Acquires.{AcquiresHold}
use Rattle.mv_certificate_rules.specs.Certificate.{Certificate, all_locals_hold, all_edges_hold}
use Rattle.mv_link_rules.specs.StoreRules.{Reaches}
use Rattle.mv_soundness.specs.Typing.Accepted.{StoreAccepted}

-- the modules are accepted, and each has a certificate that holds and acquires lists that are right
pub record StoreCertified (modules : List Module) (certificates : List Certificate) : Type 0 where
  pub accepted : StoreAccepted modules
  pub certified : (place : ℕ) (m : Module) → slice_get modules place ≡ Some m → (c : Certificate) × (slice_get certificates place ≡ Some c) × IsTrue (all_locals_hold m c) × IsTrue (all_edges_hold m c)
  pub acquires : (place : ℕ) (m : Module) → slice_get modules place ≡ Some m → AcquiresHold m

-- the module at one place depends on the one at another
abbrev pub Depends : List Module → ℕ → ℕ → Type 0
Depends modules a b = (m : Module) × (n : Module) × (slice_get modules a ≡ Some m) × (slice_get modules b ≡ Some n) × Reaches modules m n
