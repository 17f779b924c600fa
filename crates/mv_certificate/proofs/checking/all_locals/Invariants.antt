use Rattle.mv_certificate.proofs.Common.{◌≡◌, take, Known, states_of}
use Rattle.mv_certificate.proofs.checking.all_locals.Given as goal

abbrev pub invariant-loop-block : goal.invariant-loop-block
invariant-loop-block l = l.states.items ≡ states_of (λ (k : Known). k.locals) (take l.block-index l.stated)
