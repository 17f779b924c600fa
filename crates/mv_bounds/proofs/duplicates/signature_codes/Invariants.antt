use Rattle.mv_bounds.proofs.Common.{◌≡◌, map, take, token_code}
use Rattle.mv_bounds.proofs.duplicates.signature_codes.Given as goal

abbrev pub invariant-loop-i : goal.invariant-loop-i
invariant-loop-i l = map (λ codes. codes.items) l.lists.items ≡ map (map token_code) (take l.i l.m.signatures)
