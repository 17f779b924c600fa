use Rattle.mv_certificate.proofs.Common.{[], ◌++◌, ◌+◌, ◌∙◌, ◌∷◌, ◌≡◌, Err, ap, arith, inl, inr, subst, sym, true≢false, common_steps, IsUnreadAt}
use Rattle.mv_certificate.proofs.Lists.{lists, lists-more}
use Rattle.mv_certificate.proofs.Marks.{all-bytes}
use Rattle.mv_certificate.proofs.Functions.{CertOn, CertOn-start, CertOn-next, CertOn-end, CertOn-unread, CertOn-left}
use Rattle.mv_certificate.proofs.reading.read_certificate.Goals as goal

pub functions-init : goal.functions-init
functions-init c =
    CertOn-start c.args.m.now c.args.bytes.now c.new-reader.result (lists c.in_ok-functions.functions.items) (ap lists c.in_ok-functions.ensures.items) c.new-reader.ensures
    (all-bytes c.args.bytes.now (λ i. omega (arith, c.type_inv.bytes i)))

pub functions-preserved : goal.functions-preserved
functions-preserved c =
    let pushed : c.push.new.self.items ≡ c.functions.functions.items ++ c.in_ok-stated.stated ∷ [] = grind (arith, common_steps) in
    subst (λ z. CertOn c.args.m.now (c.functions.f + 1) c.args.bytes.now z c.read_function.new.reader) (sym (lists-more c.functions.functions.items c.push.new.self.items c.in_ok-stated.stated pushed))
    (CertOn-next c.args.m.now c.functions.f c.args.bytes.now c.functions.reader c.read_function.new.reader (lists c.functions.functions.items) c.in_ok-stated.stated.items
    (omega arith) c.in_ok-stated.ensures.ok c.functions.invariant)

pub returns-in_err-stated-clause-none : goal.returns-in_err-stated-clause-none
returns-in_err-stated-clause-none c is =
    let unread : IsUnreadAt c.args.m.now c.functions.f c.functions.reader = elim c.in_err-stated.ensures.errors [ inl p ↦ c.in_err-stated.ensures.refused (ap Err p) | inr q ↦ absurd (grind (arith, common_steps, q, is)) ] in
    CertOn-unread c.args.m.now c.functions.f c.args.bytes.now c.functions.reader (lists c.functions.functions.items) (omega arith) unread c.functions.invariant

pub returns-else-is_empty-clause-none : goal.returns-else-is_empty-clause-none
returns-else-is_empty-clause-none c is =
    CertOn-left c.args.m.now c.functions.f c.args.bytes.now c.functions.reader (lists c.functions.functions.items) (omega arith)
    (λ e. true≢false (sym (c.is_empty.ensures.1 e) ∙ c.if-is_empty.false)) c.functions.invariant

pub returns-then-is_empty-clause-ok : goal.returns-then-is_empty-clause-ok
returns-then-is_empty-clause-ok c =
    CertOn-end c.args.m.now c.functions.f c.args.bytes.now c.functions.reader (lists c.functions.functions.items) (omega arith)
    (c.is_empty.ensures.0 c.if-is_empty.true) c.functions.invariant
