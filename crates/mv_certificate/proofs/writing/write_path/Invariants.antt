use Rattle.mv_certificate.proofs.Common.{◌++◌, ◌≡◌, flat_map, take, uleb}
use Rattle.mv_certificate.proofs.writing.write_path.Given as goal

abbrev pub invariant-loop-position : goal.invariant-loop-position
invariant-loop-position l = l.out.items ≡ l.initial.out.items ++ flat_map uleb (take l.position-index l.path)
