use Rattle.mv_ledger_state.proofs.Common.{◌∙◌, ap, length, vec_capacity, vec_len, Global, Vec}
use Rattle.mv_ledger_state.specs.Blocks.{counts_at}
use Rattle.mv_ledger_state.specs.declared.blocks.Mark.{Mark}
use Rattle.mv_ledger_state.specs.declared.blocks.TallyBefore.{TallyBefore}
use Rattle.mv_ledger_state.proofs.Marks.{ascend-same, can-same, held-reserved, on_ok-so}
use Rattle.mv_ledger_state.proofs.blocks.Blocks.prepare.Goals as goal

pub returns-in_err-reserve-clause-same : goal.returns-in_err-reserve-clause-same
returns-in_err-reserve-clause-same c = λ tallies. held-reserved c.args.self.now c.reserve.new.self c.args.store.now tallies c.reserve.ensures.noted c.reserve.ensures.marks

pub returns-in_err-reserve-clause-ascend : goal.returns-in_err-reserve-clause-ascend
returns-in_err-reserve-clause-ascend c =
    ascend-same c.args.self.now c.reserve.new.self (ap (λ (v : Vec Mark Global). counts_at v.items) c.reserve.ensures.marks) (ap length c.reserve.ensures.noted)

pub returns-clause-can : goal.returns-clause-can
returns-clause-can c =
    on_ok-so c.note_store.result (λ done. can-same c.reserve.new.self c.note_store.new.self c.args.count c.note_store.ensures.open (ap vec_len c.note_store.ensures.noted)
    (ap vec_capacity c.note_store.ensures.noted) c.in_ok-reserve.ensures.can) c.note_store.ensures.held

pub returns-clause-held : goal.returns-clause-held
returns-clause-held c =
    on_ok-so c.note_store.result (λ held modules tallies. held modules tallies
    ∙ held-reserved c.args.self.now c.reserve.new.self c.args.store.now tallies c.reserve.ensures.noted c.reserve.ensures.marks) c.note_store.ensures.held

pub returns-clause-same : goal.returns-clause-same
returns-clause-same c = λ tallies.
    c.note_store.ensures.same tallies ∙ held-reserved c.args.self.now c.reserve.new.self c.args.store.now tallies c.reserve.ensures.noted c.reserve.ensures.marks

pub returns-clause-ascend : goal.returns-clause-ascend
returns-clause-ascend c =
    ascend-same c.args.self.now c.note_store.new.self (c.note_store.ensures.counts ∙ ap (λ (v : Vec Mark Global). counts_at v.items) c.reserve.ensures.marks)
    (ap (λ (v : Vec TallyBefore Global). length v.items) c.note_store.ensures.noted ∙ ap length c.reserve.ensures.noted)
