use Rattle.mv_edges.proofs.Common.{◌≡◌, ◌<◌, ◌≤◌, ℕ, get_or, length, true}
use Rattle.mv_ways.specs.Covered.{AreCovered}
use Rattle.mv_ways.specs.Derived.{is_passed}
use Rattle.mv_ways.specs.Going.{IsReturned, LeadsTo, says_passed}
use Rattle.mv_ways.specs.declared.provenances.under.leading.Mark.{Mark}
use Rattle.mv_ways.proofs.provenances.ProvenanceGraph.are_first_passed.Given as goal

-- of the first provenances that lead there it is noted whether they are passed, and those that were given are
abbrev pub invariant-loop-place : goal.invariant-loop-place
invariant-loop-place l = record {
  covered : AreCovered l.self l.reference.node l.others l.covered;
  marks : length l.marks ≡ length l.self.provenances;
  later : (k : ℕ) (d : Mark) → l.place ≤ k → get_or l.marks k d ≡ get_or l.fn.marks k d;
  room : length l.room ≡ length l.self.provenances;
  noted : (k : ℕ) (d : Mark) → k < l.place → LeadsTo l.self.provenances l.reference.provenance k → says_passed (get_or l.marks k d) ≡ is_passed l.self l.reference.node l.others k;
  given : (k : ℕ) → k < l.place → IsReturned l.self.provenances l.reference.provenance 0 k → is_passed l.self l.reference.node l.others k ≡ true;
}
