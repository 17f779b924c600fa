use Rattle.std.proofs.Common.{◌++◌, ◌∷◌, [], ◌/◌, ◌%◌, ◌+◌, arith, ap, ◌∙◌, append_assoc}
use Rattle.std.proofs.lemmas.Result.{IfOk-equal}
use Rattle.mv_uleb.specs.Uleb.{uleb}
use Rattle.mv_uleb.proofs.Form.{uleb-last, uleb-further}
use Rattle.mv_uleb.proofs.writing.+write.Goals as goal

pub returns-then-n-lt128-clause-written : goal.returns-then-n-lt128-clause-written
returns-then-n-lt128-clause-written t c = rw (uleb-last c.args.n c.if-n-lt128.true) c.in_ok-push.ensures.items

pub returns-else-is_err-clause-written : goal.returns-else-is_err-clause-written
returns-else-is_err-clause-written t c = rw (uleb-further c.args.n c.if-n-lt128.false (omega arith))
    (IfOk-equal c.write-high.result _ _ _ c.write-high.ensures.written
    (ap (λ z. z ++ uleb (c.args.n / 128)) c.in_ok-push-2.ensures.items ∙ append_assoc c.args.out.now.items ((c.args.n % 128 + 128) ∷ []) (uleb (c.args.n / 128))))
