use Rattle.mv_certificate.proofs.Common.{◌≡◌, flat_map, take, stated_text}
use Rattle.mv_certificate.proofs.encode.Given as goal

abbrev pub invariant-loop-stated : goal.invariant-loop-stated
invariant-loop-stated l = l.out.items ≡ flat_map (flat_map stated_text) (take l.stated-index l.c)
