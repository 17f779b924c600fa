-- What several reads took, and what several writes gave, one after the other.
use Rattle.std.proofs.Common.{◌≡◌, ℕ, ◌+◌, ◌-◌, List, [], ◌++◌, length, take, drop, arith, refl, sym, subst, append-nil, Option, Some, None, take_all, length-drop}
use Rattle.std.specs.Io.KnownBytes.{Consumes, Appends, IsAtEnd}
use Rattle.std.proofs.KnownBytes.{Consumes-trans, Appends-nil, Appends-trans}
use Rattle.std.proofs.Math.Seq.{take-add}
use Rattle.moveledger.specs.Headline.{Tells}
use Rattle.moveledger.specs.Outcome.{left_of}

-- what was taken, and what is left, is what was there
pub Tells-taken : (a b : Option (List ℕ)) (took : List ℕ) → Consumes a b took → Tells a (took ++ left_of b)
Tells-taken None b took p = tt
Tells-taken (Some xs) None took p = absurd p
Tells-taken (Some xs) (Some ys) took p = p

pub left_of-end : (a : Option (List ℕ)) → IsAtEnd a → left_of a ≡ []
left_of-end None p = refl
left_of-end (Some xs) p = p

-- a read that took nothing
pub Consumes-none : (a b c : Option (List ℕ)) (bs : List ℕ) → Consumes a b bs → Consumes b c [] → Consumes a c bs
Consumes-none a b c bs p q = subst (Consumes a c) (append-nil bs) (Consumes-trans a b c bs [] p q)

-- a writer that took nothing
pub Appends-same : (a b : Option (List ℕ)) → b ≡ a → Appends a b []
Appends-same a b same = subst (λ (o : Option (List ℕ)). Appends a o []) (sym same) (Appends-nil a)

-- what is written of a text goes on
pub Appends-more : (a b c : Option (List ℕ)) (text : List ℕ) (i n : ℕ) → Appends a b (take i text) → Appends b c (take n (take (length text - i) (drop i text))) → Appends a c (take (i + n) text)
Appends-more a b c text i n p q =
    let rest : take (length text - i) (drop i text) ≡ drop i text = take_all (length text - i) (drop i text) (omega (arith, length-drop i text)) in
    let w : Appends b c (take n (drop i text)) = subst (λ l. Appends b c (take n l)) rest q in
    subst (Appends a c) (sym (take-add i n text)) (Appends-trans a b c (take i text) (take n (drop i text)) p w)
