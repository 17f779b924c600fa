use Rattle.mv_certificate.proofs.Common.{◌++◌, ◌≡◌, flat_map, take, stated_text}
use Rattle.mv_certificate.proofs.writing.write_stated.Given as goal

abbrev pub invariant-loop-block : goal.invariant-loop-block
invariant-loop-block l = l.out.items ≡ l.initial.out.items ++ flat_map stated_text (take l.block-index l.stated)
