use Rattle.mv_storage.proofs.Common.{◌∙◌, ℕ, List, subst, sym}
use Rattle.mv_undo.specs.Undo.{AreMarks}
use Rattle.mv_undo.proofs.Undoing.{AreMarks-last}
use Rattle.mv_undo.proofs.Lasts.{last-same, last-some}
use Rattle.mv_storage.proofs.changes.newest.Goals as goal

pub returns-in-Some-clause-is : goal.returns-in-Some-clause-is
returns-in-Some-clause-is c older mark e = last-same c.in-Some.ensures.0 older c.in-Some.mark mark (sym c.in-Some.ensures.1 ∙ e)

pub returns-in-Some-clause-within : goal.returns-in-Some-clause-within
returns-in-Some-clause-within c a = AreMarks-last c.in-Some.ensures.0 c.in-Some.mark c.args.count (subst (λ (ms : List ℕ). AreMarks ms c.args.count) c.in-Some.ensures.1 a)

pub returns-in-None-clause-is : goal.returns-in-None-clause-is
returns-in-None-clause-is c older mark e = absurd (last-some older mark (sym e ∙ c.in-None.ensures))
