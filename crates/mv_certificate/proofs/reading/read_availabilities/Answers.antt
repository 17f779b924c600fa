use Rattle.mv_certificate.proofs.Common.{[], ◌++◌, ◌+◌, ◌∷◌, ◌≡◌, arith, subst, sym, common_steps, ReadsOn, ReadsOn-next, availability_from}
use Rattle.mv_module_text.proofs.Entries.{ReadsOn-start}
use Rattle.mv_certificate.proofs.Loops.{ReadsOn-breaks, ReadsOn-whole}
use Rattle.mv_certificate.proofs.reading.read_availabilities.Goals as goal

pub returns-in_err-local-clause-refused : goal.returns-in_err-local-clause-refused
returns-in_err-local-clause-refused c is =
    ReadsOn-breaks availability_from c.args.count c.locals.counter c.args.reader.now c.locals.locals c.locals.reader
    (omega arith) c.in_err-local.ensures.1 c.locals.invariant

pub locals-preserved : goal.locals-preserved
locals-preserved c =
    let pushed : c.push.new.self ≡ c.locals.locals ++ c.in_ok-local.local ∷ [] = grind (arith, common_steps) in
    subst (λ z. ReadsOn availability_from c.args.count (c.locals.counter + 1) c.args.reader.now z c.read_availability.new.reader) (sym pushed)
    (ReadsOn-next availability_from c.args.count c.locals.counter c.args.reader.now c.locals.locals c.locals.reader c.read_availability.new.reader c.in_ok-local.local
    (omega arith) c.in_ok-local.ensures c.locals.invariant)

pub locals-init : goal.locals-init
locals-init c =
    subst (λ z. ReadsOn availability_from c.args.count 0 c.args.reader.now z c.args.reader.now) (sym c.none-locals.ensures)
    (ReadsOn-start availability_from c.args.count c.args.reader.now)

pub returns-clause-ok : goal.returns-clause-ok
returns-clause-ok c = ReadsOn-whole availability_from c.args.count c.locals.counter c.args.reader.now c.locals.locals c.locals.reader (omega arith) c.locals.invariant
