use Rattle.std.proofs.Common.{ℕ, List, subst, sym, take, arith}
use Rattle.std.proofs.KnownBytes.{Consumes-trans}
use Rattle.std.specs.Io.KnownBytes.{Consumes}
use Rattle.moveledger.proofs.Fronts.{whole-read, fails-read, found-fails}
use Rattle.moveledger.proofs.inputs.all_or_refusal.Goals as goal

pub returns-then-n-len-clause-read : goal.returns-then-n-len-clause-read
returns-then-n-len-clause-read g c = λ given begun.
    whole-read given (g.R.Read.remaining c.read_on.new.reader) c.read_on.new.bytes.items
    (subst (λ (l : List ℕ). Consumes given (g.R.Read.remaining c.read_on.new.reader) l) (sym c.in_ok-n.ensures.bytes)
    (Consumes-trans given (g.R.Read.remaining c.each.reader) (g.R.Read.remaining c.read_on.new.reader) c.each.bytes.items (take c.in_ok-n.n c.read_on.new.part) (c.each.invariant given begun) c.in_ok-n.ensures.taken))
    (c.in_ok-n.ensures.end (omega arith))

pub returns-in-Some-clause-read : goal.returns-in-Some-clause-read
returns-in-Some-clause-read g c = λ given begun.
    fails-read given (g.R.Read.remaining c.read_on.new.reader) c.read_on.new.bytes.items c.in-Some.number
    (subst (λ (l : List ℕ). Consumes given (g.R.Read.remaining c.read_on.new.reader) l) (sym c.in_ok-n.ensures.bytes)
    (Consumes-trans given (g.R.Read.remaining c.each.reader) (g.R.Read.remaining c.read_on.new.reader) c.each.bytes.items (take c.in_ok-n.n c.read_on.new.part) (c.each.invariant given begun) c.in_ok-n.ensures.taken))
    (found-fails c.deref-then-is_due.result.now c.read_on.new.bytes.items c.in_ok-number.field-0 c.in-Some.number c.deref-then-is_due.ensures.value c.in-Some.is c.in_ok-number.ensures.number)

pub each-preserved : goal.each-preserved
each-preserved g c = λ given begun.
    subst (λ (l : List ℕ). Consumes given (g.R.Read.remaining c.read_on.new.reader) l) (sym c.in_ok-n.ensures.bytes)
    (Consumes-trans given (g.R.Read.remaining c.each.reader) (g.R.Read.remaining c.read_on.new.reader) c.each.bytes.items (take c.in_ok-n.n c.read_on.new.part) (c.each.invariant given begun) c.in_ok-n.ensures.taken)
