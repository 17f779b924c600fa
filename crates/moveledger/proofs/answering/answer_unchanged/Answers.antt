use Rattle.std.proofs.Common.{Some, inl, inr, refl}
use Rattle.mv_machine.specs.Lines.{Refused}
use Rattle.mv_ledger.specs.Answering.{told_lines}
use Rattle.moveledger.proofs.WrittenReplies.{written_answers, other_replied, reply_fails_to_answer, report_fails_to_answer}
use Rattle.moveledger.proofs.answering.answer_unchanged.Goals as goal

pub returns-then-kind-eq-SHOW-clause-ok : goal.returns-then-kind-eq-SHOW-clause-ok
returns-then-kind-eq-SHOW-clause-ok g c =
    written_answers c.args.number c.args.kind 3 c.args.payload.now (told_lines c.show_lines.result) c.args.ledger.now c.args.ledger.now (g.W.Write.contents c.args.writer.now) (g.W.Write.contents c.write_report.new.writer)
    c.write_report.result c.if-kind-eq-SHOW.true c.show_lines.ensures.replies c.write_report.ensures.ok

pub returns-then-kind-eq-SHOW-clause-err : goal.returns-then-kind-eq-SHOW-clause-err
returns-then-kind-eq-SHOW-clause-err g c =
    report_fails_to_answer c.args.number c.args.kind 3 c.args.payload.now c.args.ledger.now (g.W.Write.contents c.args.writer.now) (g.W.Write.contents c.write_report.new.writer)
    c.write_report.result c.if-kind-eq-SHOW.true (λ json. inl (c.if-kind-eq-SHOW.true, json)) c.show_lines.result c.show_lines.ensures.replies c.show_lines.ensures.format c.write_report.ensures.err

pub returns-then-kind-eq-AUDIT-clause-ok : goal.returns-then-kind-eq-AUDIT-clause-ok
returns-then-kind-eq-AUDIT-clause-ok g c =
    written_answers c.args.number c.args.kind 4 c.args.payload.now (told_lines c.audit_lines.result) c.args.ledger.now c.args.ledger.now (g.W.Write.contents c.args.writer.now) (g.W.Write.contents c.write_report-then-kind-eq-AUDIT.new.writer)
    c.write_report-then-kind-eq-AUDIT.result c.if-kind-eq-AUDIT.true c.audit_lines.ensures.replies c.write_report-then-kind-eq-AUDIT.ensures.ok

pub returns-then-kind-eq-AUDIT-clause-err : goal.returns-then-kind-eq-AUDIT-clause-err
returns-then-kind-eq-AUDIT-clause-err g c =
    report_fails_to_answer c.args.number c.args.kind 4 c.args.payload.now c.args.ledger.now (g.W.Write.contents c.args.writer.now) (g.W.Write.contents c.write_report-then-kind-eq-AUDIT.new.writer)
    c.write_report-then-kind-eq-AUDIT.result c.if-kind-eq-AUDIT.true (λ json. inr (c.if-kind-eq-AUDIT.true, json)) c.audit_lines.result c.audit_lines.ensures.replies c.audit_lines.ensures.format c.write_report-then-kind-eq-AUDIT.ensures.err

pub returns-clause-ok : goal.returns-clause-ok
returns-clause-ok g c =
    let other = other_replied c.args.kind c.args.payload.now c.args.ledger.now c.requires.publish c.requires.run c.if-kind-eq-SHOW.false c.if-kind-eq-AUDIT.false c.is_sound.ensures in
    written_answers c.args.number c.args.kind c.args.kind c.args.payload.now (Some (Refused 1)) c.args.ledger.now c.args.ledger.now (g.W.Write.contents c.args.writer.now) (g.W.Write.contents c.write_reply.new.writer)
    c.write_reply.result refl other c.write_reply.ensures.ok

pub returns-clause-err : goal.returns-clause-err
returns-clause-err g c =
    let other = other_replied c.args.kind c.args.payload.now c.args.ledger.now c.requires.publish c.requires.run c.if-kind-eq-SHOW.false c.if-kind-eq-AUDIT.false c.is_sound.ensures in
    reply_fails_to_answer c.args.number c.args.kind c.args.kind c.args.payload.now (Some (Refused 1)) c.args.ledger.now c.args.ledger.now (g.W.Write.contents c.args.writer.now) (g.W.Write.contents c.write_reply.new.writer)
    c.write_reply.result refl other c.write_reply.ensures.err
