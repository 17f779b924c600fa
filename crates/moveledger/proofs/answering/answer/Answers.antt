use Rattle.mv_ledger.specs.Answering.{told}
use Rattle.moveledger.proofs.WrittenReplies.{written_answers, reply_fails_to_answer}
use Rattle.moveledger.proofs.answering.answer.Goals as goal

pub returns-then-kind-eq-PUBLISH-clause-ok : goal.returns-then-kind-eq-PUBLISH-clause-ok
returns-then-kind-eq-PUBLISH-clause-ok g c =
    written_answers c.args.number c.args.kind 1 c.args.payload.now (told c.publish.result) c.args.ledger.now c.publish.new.self (g.W.Write.contents c.args.writer.now) (g.W.Write.contents c.write_reply.new.writer)
    c.write_reply.result c.if-kind-eq-PUBLISH.true c.publish.ensures c.write_reply.ensures.ok

pub returns-then-kind-eq-PUBLISH-clause-err : goal.returns-then-kind-eq-PUBLISH-clause-err
returns-then-kind-eq-PUBLISH-clause-err g c =
    reply_fails_to_answer c.args.number c.args.kind 1 c.args.payload.now (told c.publish.result) c.args.ledger.now c.publish.new.self (g.W.Write.contents c.args.writer.now) (g.W.Write.contents c.write_reply.new.writer)
    c.write_reply.result c.if-kind-eq-PUBLISH.true c.publish.ensures c.write_reply.ensures.err

pub returns-then-kind-eq-RUN-clause-ok : goal.returns-then-kind-eq-RUN-clause-ok
returns-then-kind-eq-RUN-clause-ok g c =
    written_answers c.args.number c.args.kind 2 c.args.payload.now (told c.execute.result) c.args.ledger.now c.execute.new.self (g.W.Write.contents c.args.writer.now) (g.W.Write.contents c.write_reply-then-kind-eq-RUN.new.writer)
    c.write_reply-then-kind-eq-RUN.result c.if-kind-eq-RUN.true c.execute.ensures c.write_reply-then-kind-eq-RUN.ensures.ok

pub returns-then-kind-eq-RUN-clause-err : goal.returns-then-kind-eq-RUN-clause-err
returns-then-kind-eq-RUN-clause-err g c =
    reply_fails_to_answer c.args.number c.args.kind 2 c.args.payload.now (told c.execute.result) c.args.ledger.now c.execute.new.self (g.W.Write.contents c.args.writer.now) (g.W.Write.contents c.write_reply-then-kind-eq-RUN.new.writer)
    c.write_reply-then-kind-eq-RUN.result c.if-kind-eq-RUN.true c.execute.ensures c.write_reply-then-kind-eq-RUN.ensures.err
