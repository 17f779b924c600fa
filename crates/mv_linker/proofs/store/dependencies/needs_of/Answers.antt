use Rattle.mv_linker.proofs.Common.{ℕ, ◌↔◌, ◌∙◌, ◌≡◌, Contains, List, subst, true}
use Rattle.std.proofs.lemmas.Result.{IfOk-weaker}
use Rattle.mv_bit_sets.specs.BitSets.{has}
use Rattle.mv_linker.proofs.Cycles.Depends.{needed_from}
use Rattle.mv_linker.proofs.store.dependencies.needs_of.Goals as goal

pub returns : goal.returns
returns c =
    IfOk-weaker c.of.result _ _ (λ needs is modules m here once p.
    needed_from modules m c.args.own c.args.places.now here once p needs
    (subst (λ (l : List ℕ). (q : ℕ) → (has needs q ≡ true) ↔ Contains l q) (c.deref.ensures.value ∙ c.in_ok-others.ensures) is)) c.of.ensures.members
