use Rattle.mv_ledger_state.proofs.Common.{◌∙◌, ◌∷◌, ◌++◌, ◌≡◌, ◌≤◌, ◌+◌, [], ap, arith, length, drop, sym, length-append, lists_of, List}
use Rattle.mv_undo.specs.Undo.{undone}
use Rattle.mv_undo.proofs.Undoing.{back-same}
use Rattle.mv_ledger_state.specs.Blocks.{tally_back}
use Rattle.mv_ledger_state.specs.declared.blocks.TallyBefore.{TallyBefore}
use Rattle.mv_ledger_state.proofs.tallies.take_back.Goals as goal

pub loop-noted-preserved-in-Some : goal.loop-noted-preserved-in-Some
loop-noted-preserved-in-Some c =
    let us = c.pop.new.self.items in
    let u = c.in-Some.before in
    let old = lists_of c.loop-noted.modules.items in
    let new = lists_of c.restore.new.modules.items in
    let was : c.loop-noted.noted.items ≡ us ++ u ∷ [] = c.in-Some.ensures.items in
    let count : length c.loop-noted.noted.items ≡ length us + 1 = ap length was ∙ length-append us (u ∷ []) in
    let room : c.args.mark ≤ length us = omega (arith, c.loop-noted-test.true, c.len.ensures, count) in
    record {
      mark = room;
      same = λ m le. back-same tally_back us u m old new c.restore.ensures (omega (arith, le, room)) ∙ ap (λ (x : List TallyBefore). undone tally_back (drop m x) old) (sym was) ∙ c.loop-noted.invariant.same m le;
    }
