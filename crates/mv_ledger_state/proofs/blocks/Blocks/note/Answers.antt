use Rattle.mv_ledger_state.proofs.Common.{◌∙◌, ap, length, subst, sym, List}
use Rattle.mv_undo.specs.Undo.{AreMarks}
use Rattle.mv_ledger_state.specs.Blocks.{counts_at, held_at}
use Rattle.mv_ledger_state.specs.declared.blocks.TallyBefore.{TallyBefore}
use Rattle.mv_ledger_state.proofs.Marks.{held-noted, ascend-noted}
use Rattle.mv_ledger_state.proofs.blocks.Blocks.note.Goals as goal

pub returns-then-not-is_empty-clause-held : goal.returns-then-not-is_empty-clause-held
returns-then-not-is_empty-clause-held c = λ a modules old new e.
    let b = c.args.self.now in
    ap (λ (us : List TallyBefore). held_at us b.marks.items modules new) c.push_reserved.ensures.items ∙ held-noted b.noted.items c.args.before b.marks.items modules old new a e

pub returns-then-not-is_empty-clause-ascend : goal.returns-then-not-is_empty-clause-ascend
returns-then-not-is_empty-clause-ascend c = λ a.
    let b = c.args.self.now in
    subst (λ (us : List TallyBefore). AreMarks (counts_at b.marks.items) (length us)) (sym c.push_reserved.ensures.items) (ascend-noted b.noted.items c.args.before b.marks.items a)
