-- What the tests of numbers, bytes and kinds mean.
use Rattle.mv_soundness.proofs.Typing.Common.{◌≡◌, true, Bool, beq, booleans_Decides, same_kind, same_width, LeafKind, Number, Plain, OfLeaf, Width}
use Rattle.mv_bound_rules.proofs.Tokens.{token_same}

pub same_width-same : (w : Width) → same_width w w ≡ true
same_width-same w = token_same (Plain (OfLeaf (Number w)))

pub same_kind-same : (k : LeafKind) → same_kind k k ≡ true
same_kind-same k = token_same (Plain (OfLeaf k))

pub beq-is : (a b : Bool) → beq a b ≡ true → a ≡ b
beq-is a b = (booleans_Decides a b).0
