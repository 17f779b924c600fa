use Rattle.std.proofs.Common.{◌≡◌, Err, ap, ◌∙◌}
use Rattle.std.proofs.KnownBytes.{Keeps-refl}
use Rattle.mv_ledger_state.specs.View.{state_of}
use Rattle.moveledger.specs.declared.streaming.EngineError.TheVariants.{Read, Write, Memory}
use Rattle.moveledger.proofs.AfterRecords.{never-failed}
use Rattle.moveledger.proofs.Endings.{Headline-kept}
use Rattle.moveledger.proofs.HeadlineLemmas.{is_accounted}
use Rattle.moveledger.proofs.streaming.engine.Goals as goal

pub returns-in-Ok-clause-ends : goal.returns-in-Ok-clause-ends
returns-in-Ok-clause-ends g c = record {
  ok = Headline-kept _ _ _ _ _ _ _ (rw c.in-Ok.is at c.answer_from-end.ensures.ends.ok) (Keeps-refl _);
  taken = rw c.in-Ok.is at c.answer_from-end.ensures.ends.taken;
  err = tt;
  read = λ failed. cc;
  write = λ failed. cc;
  memory = λ failed. cc;
}

pub returns-in-Err-clause-ends : goal.returns-in-Err-clause-ends
returns-in-Err-clause-ends g c =
    let ends = c.answer_from-end.ensures.ends in
    let n = c.answer_from-end.new.answered in
    record {
      ok = tt;
      taken = tt;
      err = (n, rw c.in-Err.is at ends.err);
      read = λ failed.
          let same : c.in-Err.error ≡ Read = cc in
          (n, ends.read (c.in-Err.is ∙ ap (λ z. Err z) same));
      write = λ failed.
          let same : c.in-Err.error ≡ Write = cc in
          (n, never-failed (c.answer_from-end.ensures.write (c.in-Err.is ∙ ap (λ z. Err z) same)));
      memory = λ failed.
          let same : c.in-Err.error ≡ Memory = cc in
          (n, ends.memory (c.in-Err.is ∙ ap (λ z. Err z) same));
    }

pub returns-in-Ok-clause-began : goal.returns-in-Ok-clause-began
returns-in-Ok-clause-began g c = is_accounted (state_of c.args.ledger.now) c.is_sound.ensures

pub returns-in-Ok-clause-accounted : goal.returns-in-Ok-clause-accounted
returns-in-Ok-clause-accounted g c = is_accounted (state_of c.answer_from-end.new.ledger) c.is_sound-2.ensures

pub returns-in-Err-clause-began : goal.returns-in-Err-clause-began
returns-in-Err-clause-began g c = is_accounted (state_of c.args.ledger.now) c.is_sound.ensures

pub returns-in-Err-clause-accounted : goal.returns-in-Err-clause-accounted
returns-in-Err-clause-accounted g c = is_accounted (state_of c.answer_from-end.new.ledger) c.is_sound-2.ensures
