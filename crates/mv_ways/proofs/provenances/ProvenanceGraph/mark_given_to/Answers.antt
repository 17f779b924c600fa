use Rattle.mv_edges.proofs.Common.{◌∙◌, arith, cases_lt, inl, inr, sym, true≢false}
use Rattle.mv_ways.specs.declared.provenances.under.leading.Mark.TheVariants.{Nothing}
use Rattle.mv_ways.proofs.ProvenanceGraph.Leading.{returned_within}
use Rattle.mv_ways.proofs.provenances.ProvenanceGraph.mark_given_to.Goals as goal

pub returns-then-not-is_derived_from_result-clause-before : goal.returns-then-not-is_derived_from_result-clause-before
returns-then-not-is_derived_from_result-clause-before c = λ k given. absurd (true≢false (sym (c.is_derived_from_result.ensures k given) ∙ c.if-not-is_derived_from_result.true))

pub returns-clause-before : goal.returns-clause-before
returns-clause-before c = λ k given.
    elim (cases_lt k c.end_of_given.result) [
      | inl less ↦ less
      | inr behind ↦
          let inside = returned_within c.args.self.now.provenances c.args.last c.requires.earlier k given in
          let long = c.mark.auto.marks in
          absurd (true≢false (sym ((c.mark.ensures.returned k Nothing inside).1 given) ∙ c.end_of_given.ensures.none k Nothing behind (omega (arith, inside, long, c.requires.room))))
    ]
