use Rattle.mv_certificate.proofs.Common.{◌++◌, ◌≡◌, map, take, availability_code}
use Rattle.mv_certificate.proofs.writing.write_availabilities.Given as goal

abbrev pub invariant-loop-local : goal.invariant-loop-local
invariant-loop-local l = l.out.items ≡ l.initial.out.items ++ map availability_code (take l.local-index l.locals)
