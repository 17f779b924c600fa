use Rattle.std.proofs.Common.{◌≡◌, ◌++◌, ap, refl, subst, ◌∙◌}
use Rattle.std.proofs.lemmas.Result.{IfErr-weaker}
use Rattle.mv_machine.specs.Lines.{numbered}
use Rattle.moveledger.specs.Answered.{line_of}
use Rattle.moveledger.specs.Writing.{BreaksOff}
use Rattle.moveledger.proofs.WrittenReplies.{reply_fails}
use Rattle.moveledger.proofs.answering.write_reply.Goals as goal

pub returns-clause-err : goal.returns-clause-err
returns-clause-err g c =
    let h = c.in_ok-put_reply.ensures in
    let line : c.deref.result.now ≡ numbered c.args.number (line_of h.0) =
    c.deref.ensures.value ∙ h.1.1 ∙ ap (λ l. l ++ numbered c.args.number (line_of h.0)) c.clear.ensures.items in
    IfErr-weaker c.write_text.result _ _
    (λ e w. reply_fails c.args.number c.args.reply _ _ (line_of h.0) e (h.0, (h.1.0, refl)) w.0 (subst (λ l. BreaksOff l (g.W.Write.contents c.args.writer.now) (g.W.Write.contents c.write_text.new.writer)) line w.1))
    c.write_text.ensures.err
