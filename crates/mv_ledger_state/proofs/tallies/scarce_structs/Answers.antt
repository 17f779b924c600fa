use Rattle.mv_ledger_state.proofs.Common.{[], ◌++◌, ◌∙◌, ◌∷◌, ◌≤◌, List, ap, arith, length, ℕ, Global, Vec}
use Rattle.mv_ledger_state.proofs.Bundles.TalliesFresh.{scarce-found, scarce-passed, scarce-all}
use Rattle.mv_ledger_state.proofs.tallies.scarce_structs.Goals as goal
use Rattle.mv_ledger_state.proofs.tallies.scarce_structs.Goals.{then-is_scarce+in_ok-push, else-is_scarce}

pub loop-i-preserved : goal.loop-i-preserved
loop-i-preserved c =
    elim c.if-is_scarce.branch [
      | then-is_scarce+in_ok-push w ↦
          ap (λ (v : Vec ℕ Global). v.items) w.indices-is ∙ w.in_ok-push.ensures.items ∙ ap (λ (xs : List ℕ). xs ++ c.loop-i.i ∷ []) c.loop-i.invariant
          ∙ scarce-found c.args.m.now c.loop-i.i c.structs-d-items.result.now c.d-item.result c.is_scarce.result c.structs-d-items.ensures.value c.loop-i-test.true c.d-item.is c.is_scarce.ensures
          w.if-is_scarce.true
      | else-is_scarce w ↦
          ap (λ (v : Vec ℕ Global). v.items) w.indices-is ∙ c.loop-i.invariant
          ∙ scarce-passed c.args.m.now c.loop-i.i c.structs-d-items.result.now c.d-item.result c.is_scarce.result c.structs-d-items.ensures.value c.loop-i-test.true c.d-item.is c.is_scarce.ensures
          w.if-is_scarce.false
    ]

pub returns : goal.returns
returns c = c.loop-i.invariant ∙ scarce-all c.args.m.now c.loop-i.i c.structs-d-items.result.now c.structs-d-items.ensures.value
    (let past : length c.structs-d-items.result.now ≤ c.loop-i.i = omega arith in past)
