-- Runs over published modules: no run meets a fault, and each state that it comes to is as the modules' certificates say.
use Rattle.std.specs.Prelude.{◌≡◌, ℕ, List, length, Some, Ok, slice_get}
use Rattle.mv_move_types.specs.Published.{PublishedModule}
use Rattle.mv_certificate_rules.specs.Certificate.{Certificate}
use Rattle.mv_certificate_rules.specs.CertificateText.{IsCertificateText}
use Rattle.mv_link_rules.specs.Link.{IsStore, tables_in}
use Rattle.mv_machine.specs.State.{Storage, State}
use Rattle.mv_machine.specs.Run.{FunctionCall, first_state, run}
use Rattle.mv_soundness.specs.Borrows.Invariant.{Holds}
use Rattle.mv_soundness.specs.Typing.CallTyped.{CallTyped}
use Rattle.mv_soundness.specs.Typing.StateTyped.{StorageTyped}
use Rattle.mv_soundness.specs.Typing.Outcome.{Faultless}
use Rattle.mv_soundness.specs.Guided.Outcome.{ComesTo}

-- the certificates that a store's modules were published with, in their order
pub record AreCertificates (store : List PublishedModule) (certificates : List Certificate) : Type 0 where
  pub long : length certificates ≡ length store
  pub each : (place : ℕ) (p : PublishedModule) → slice_get store place ≡ Some p
      → (c : Certificate) × (slice_get certificates place ≡ Some c) × IsCertificateText p.tables p.certificate c

-- over a typed storage no run of a typed call meets a fault, in any budget, and the storage that it returns is typed
abbrev pub RunsAreFaultless : Type 0
RunsAreFaultless =
    (store : List PublishedModule) (storage : Storage) (call : FunctionCall) (budget : ℕ) → IsStore store → StorageTyped (tables_in store) storage
    → CallTyped (tables_in store) call → Faultless (tables_in store) (run (tables_in store) storage call budget)

-- and each state that it comes to is as the certificates say
abbrev pub StatesHold : Type 0
StatesHold =
    (store : List PublishedModule) (certificates : List Certificate) (storage : Storage) (call : FunctionCall) (first s : State)
    → IsStore store → AreCertificates store certificates → StorageTyped (tables_in store) storage → CallTyped (tables_in store) call
    → first_state (tables_in store) storage call ≡ Ok first → ComesTo (tables_in store) first s → Holds (tables_in store) certificates s
