-- What the front of bytes gives, a byte at a time, and that it gives one thing.
use Rattle.std.proofs.Common.{◌≡◌, ℕ, ◌+◌, ◌-◌, ◌*◌, ◌/◌, ◌^◌, ◌<◌, ◌≤◌, List, [], ◌∷◌, ◌++◌, take, drop, length, arith, refl, ap, suc, zero, sym}
use Rattle.std.proofs.Common.{◌∙◌, subst, take-append-drop, Option, Some, None, Result, Ok, Err, IfOk, IsErr, inl, inr, option_and_then}
use Rattle.std.proofs.Common.{length-append, length-drop}
use Rattle.std.proofs.lemmas.Option.{some_pair_parts, none-some}
use Rattle.std.proofs.lemmas.Bool.{false≢true}
use Rattle.mv_uleb.specs.declared.UlebError.{UlebError}
use Rattle.mv_uleb.specs.declared.UlebError.TheVariants.{Ends, Long, Range}
use Rattle.mv_uleb.specs.Uleb.{IsUleb, uleb, AreHigh}
use Rattle.mv_uleb.specs.Parsing.{spelled, with_low, number_from}
use Rattle.mv_uleb.specs.Reading.{Spells, EndsWithin, IsLongWithin, IsEndless, IsAbove, IsBeyondWithin, Gives}
use Rattle.mv_uleb.proofs.Spelled.{IsUleb-more, spelled-further, spelled-front, with_low-parts, number_from-some, number_from-above, number_from-none, number_from-uleb}

-- the same reason after one more byte
pub Gives-more : (k max b : ℕ) (rest : List ℕ) (e : UlebError) → 128 ≤ b → b < 256 → Gives k (max / 128) rest (Err e) → Gives (suc k) max (b ∷ rest) (Err e)
Gives-more k max b rest Ends ge lt g = record { few = omega (arith, g.few); high = (ge, g.high) }
Gives-more k max b rest Long ge lt g =
    record { front = b ∷ g.front; rest = g.rest; text = ap (λ z. b ∷ z) g.text; high = (ge, g.high); more = omega arith; few = omega (arith, g.few) }
Gives-more k max b rest Range ge lt (inl g) = inl (record { many = omega (arith, g.many); high = (ge, g.high) })
Gives-more k max b rest Range ge lt (inr g) =
    let above : max / 128 < g.number = g.above in
    inr (record {
      used = suc g.used;
      number = b - 128 + 128 * g.number;
      spelling = IsUleb-more b (b - 128 + 128 * g.number) g.number (take g.used rest) ge lt (omega arith) (omega arith) g.spelling;
      few = omega (arith, g.few);
      above = omega arith;
    })

-- the same at a count and bytes that are known by equations
pub Gives-behind : (most k max b : ℕ) (bytes rest : List ℕ) (e : UlebError) → most ≡ suc k → bytes ≡ b ∷ rest → 128 ≤ b → b < 256 → Gives k (max / 128) rest (Err e) → Gives most max bytes (Err e)
Gives-behind most k max b bytes rest e m t ge lt g =
    subst (λ z. Gives z max bytes (Err e)) (sym m) (subst (λ z. Gives (suc k) max z (Err e)) (sym t) (Gives-more k max b rest e ge lt g))

-- only a byte 0 spells 0
spells_nothing : (t : List ℕ) (n : ℕ) → n ≡ 0 → IsUleb t n → t ≡ 0 ∷ []
spells_nothing [] n z u = absurd u
spells_nothing (b ∷ []) n z u = let e : b ≡ 0 = omega (arith, u.1) in ap (λ v. v ∷ []) e
spells_nothing (b ∷ c ∷ bs) n z u = absurd (omega (arith, u.0, u.3, u.4))

-- some byte is used
some_used : (used n : ℕ) (bytes : List ℕ) → IsUleb (take used bytes) n → 0 < used
some_used zero n bytes u = absurd u
some_used (suc k) n bytes u = omega arith

-- a further byte before 0 is a form that is too long
pub IsLong-zero : (most k max b n used : ℕ) (bytes rest : List ℕ) → most ≡ suc k → bytes ≡ b ∷ rest → 128 ≤ b → n ≡ 0 → Spells k max rest n used → IsLongWithin most bytes
IsLong-zero most k max b n used bytes rest m t ge z g =
    let pos = some_used used n rest g.spelling in
    let e : rest ≡ 0 ∷ drop used rest = sym (take-append-drop used rest) ∙ ap (λ v. v ++ drop used rest) (spells_nothing (take used rest) n z g.spelling) in
    record {
      front = b ∷ [];
      rest = drop used rest;
      text = t ∙ ap (λ v. b ∷ v) e;
      high = (ge, tt);
      more = omega arith;
      few = omega (arith, g.few);
    }

-- a further byte before a number that makes one above the greatest
pub IsAbove-number : (most k max low b high number used : ℕ) (bytes rest : List ℕ) → most ≡ suc k → bytes ≡ b ∷ rest → 128 ≤ b → b < 256
    → (high ≡ 0 → ⊥) → number + 128 ≡ b + 128 * high → max < number → Spells k low rest high used → IsBeyondWithin most max bytes
IsAbove-number most k max low b high number used bytes rest m t ge lt ne e above g =
    let u : IsUleb (take (suc used) (b ∷ rest)) number = IsUleb-more b number high (take used rest) ge lt (omega arith) e g.spelling in
    inr (record {
      used = suc used;
      number = number;
      spelling = subst (λ z. IsUleb (take (suc used) z) number) (sym t) u;
      few = omega (arith, g.few);
      above = above;
    })

-- what a front spells is read
spelled-take : (used n : ℕ) (bytes : List ℕ) → IsUleb (take used bytes) n → spelled bytes ≡ Some (n, drop used bytes)
spelled-take used n bytes u = ap spelled (sym (take-append-drop used bytes)) ∙ spelled-front (take used bytes) (drop used bytes) n u

-- nothing is read of bytes of which none is the last
spelled-high : (bytes : List ℕ) → AreHigh bytes → spelled bytes ≡ None
spelled-high [] h = refl
spelled-high (b ∷ bytes) h = spelled-further b bytes h.0 ∙ ap (option_and_then (with_low b)) (spelled-high bytes h.1)

-- nor of a form that is too long
spelled-long : (front rest : List ℕ) → AreHigh front → 0 < length front → spelled (front ++ 0 ∷ rest) ≡ None
spelled-long [] rest h lt = absurd (omega arith)
spelled-long (b ∷ []) rest h lt = spelled-further b (0 ∷ rest) h.0
spelled-long (b ∷ c ∷ front) rest h lt =
    spelled-further b (c ∷ front ++ 0 ∷ rest) h.0 ∙ ap (option_and_then (with_low b)) (spelled-long (c ∷ front) rest h.1 (omega arith))

-- a number with so many bytes before its last is great
high_is_great : (k n : ℕ) (bytes rest : List ℕ) → suc k ≤ length bytes → AreHigh (take (suc k) bytes) → spelled bytes ≡ Some (n, rest) → 128 ^ (suc k) ≤ n
high_is_great k n [] rest le h e = absurd (omega arith)
high_is_great zero n (b ∷ bytes) rest le h e =
    let p = with_low-parts b n rest (spelled bytes) h.0 (sym (spelled-further b bytes h.0) ∙ e) in
    omega (arith, h.0, p.1, p.2)
high_is_great (suc k) n (b ∷ bytes) rest le h e =
    let p = with_low-parts b n rest (spelled bytes) h.0 (sym (spelled-further b bytes h.0) ∙ e) in
    let up : 128 ^ (suc k) ≤ p.0 = high_is_great k p.0 bytes rest (omega arith) h.1 p.3 in
    omega (arith, h.0, p.2, up)

-- a byte below 128 is not high
no_zero_high : (front rest : List ℕ) → AreHigh (front ++ 0 ∷ rest) → ⊥
no_zero_high [] rest h = omega (arith, h.0)
no_zero_high (b ∷ front) rest h = no_zero_high front rest h.1

-- nor is it among the first
no_zero_taken : (k : ℕ) (front rest : List ℕ) → length front < k → AreHigh (take k (front ++ 0 ∷ rest)) → ⊥
no_zero_taken zero front rest lt h = omega arith
no_zero_taken (suc k) [] rest lt h = omega (arith, h.0)
no_zero_taken (suc k) (b ∷ front) rest lt h = no_zero_taken k front rest (omega arith) h.1

-- nothing is read where the form is too long
long_is_none : (most : ℕ) (bytes : List ℕ) → IsLongWithin most bytes → spelled bytes ≡ None
long_is_none most bytes g = ap spelled g.text ∙ spelled-long g.front g.rest g.high g.more

-- ten bytes and no last one
endless_is_none : (max : ℕ) (bytes : List ℕ) (r : Option (ℕ × List ℕ)) → max < 2 ^ 64 → IsEndless 10 bytes → spelled bytes ≡ r → number_from max bytes ≡ None
endless_is_none max bytes None lt g e = number_from-none max bytes e
endless_is_none max bytes (Some r) lt g e =
    let great : 128 ^ 10 ≤ r.0 = high_is_great 9 r.0 bytes r.1 g.many g.high e in
    number_from-above max r.0 bytes r.1 e (omega arith)

-- each reason is one that nothing is read
error_is_none : (max : ℕ) (bytes : List ℕ) (e : UlebError) → max < 2 ^ 64 → Gives 10 max bytes (Err e) → number_from max bytes ≡ None
error_is_none max bytes Ends lt g = number_from-none max bytes (spelled-high bytes g.high)
error_is_none max bytes Long lt g = number_from-none max bytes (long_is_none 10 bytes g)
error_is_none max bytes Range lt (inl g) = endless_is_none max bytes (spelled bytes) lt g refl
error_is_none max bytes Range lt (inr g) = number_from-above max g.number bytes (drop g.used bytes) (spelled-take g.used g.number bytes g.spelling) g.above

-- what is found is read
found_is_some : (max n used : ℕ) (bytes : List ℕ) → Spells 10 max bytes n used → number_from max bytes ≡ Some (n, drop used bytes)
found_is_some max n used bytes g = number_from-some max n bytes (drop used bytes) (spelled-take used n bytes g.spelling) g.small

-- what is given is what is read
pub Gives-parsed : (max : ℕ) (bytes : List ℕ) (r : Result (ℕ × ℕ) UlebError) → Gives 10 max bytes r → IfOk r (λ f. number_from max bytes ≡ Some (f.0, drop f.1 bytes))
Gives-parsed max bytes (Ok f) g = found_is_some max f.0 f.1 bytes g
Gives-parsed max bytes (Err e) g = tt

-- where nothing is given nothing is read
pub Gives-refused : (max : ℕ) (bytes : List ℕ) (r : Result (ℕ × ℕ) UlebError) → max < 2 ^ 64 → Gives 10 max bytes r → IsErr r → number_from max bytes ≡ None
Gives-refused max bytes (Ok f) lt g h = absurd (false≢true h)
Gives-refused max bytes (Err e) lt g h = error_is_none max bytes e lt g

-- a number and a reason
not_both : (max n used : ℕ) (bytes : List ℕ) (e : UlebError) → max < 2 ^ 64 → Gives 10 max bytes (Err e) → Spells 10 max bytes n used → ⊥
not_both max n used bytes e lt g f = none-some (n, drop used bytes) (sym (error_is_none max bytes e lt g) ∙ found_is_some max n used bytes f)

-- something is read where a number is above the greatest
above_is_some : (max : ℕ) (bytes : List ℕ) → IsAbove 10 max bytes → spelled bytes ≡ None → ⊥
above_is_some max bytes g e = none-some (g.number, drop g.used bytes) (sym e ∙ spelled-take g.used g.number bytes g.spelling)

-- the bytes end early or hold a 0
ends_or_long : (bytes : List ℕ) → EndsWithin 10 bytes → IsLongWithin 10 bytes → ⊥
ends_or_long bytes a b = no_zero_high b.front b.rest (subst AreHigh b.text a.high)

-- the bytes end early or are beyond
ends_or_beyond : (max : ℕ) (bytes : List ℕ) → EndsWithin 10 bytes → IsBeyondWithin 10 max bytes → ⊥
ends_or_beyond max bytes a (inl b) = omega (arith, a.few, b.many)
ends_or_beyond max bytes a (inr b) = above_is_some max bytes b (spelled-high bytes a.high)

-- the form is too long or beyond
long_or_beyond : (max : ℕ) (bytes : List ℕ) → IsLongWithin 10 bytes → IsBeyondWithin 10 max bytes → ⊥
long_or_beyond max bytes a (inl b) = no_zero_taken 10 a.front a.rest a.few (subst (λ z. AreHigh (take 10 z)) a.text b.high)
long_or_beyond max bytes a (inr b) = above_is_some max bytes b (long_is_none 10 bytes a)

-- one thing is given
pub Gives-error : (max : ℕ) (bytes : List ℕ) (e : UlebError) (r : Result (ℕ × ℕ) UlebError) → max < 2 ^ 64 → Gives 10 max bytes (Err e) → Gives 10 max bytes r → r ≡ Err e
Gives-error max bytes e (Ok f) lt g h = absurd (not_both max f.0 f.1 bytes e lt g h)
Gives-error max bytes Ends (Err Ends) lt g h = refl
Gives-error max bytes Ends (Err Long) lt g h = absurd (ends_or_long bytes g h)
Gives-error max bytes Ends (Err Range) lt g h = absurd (ends_or_beyond max bytes g h)
Gives-error max bytes Long (Err Ends) lt g h = absurd (ends_or_long bytes h g)
Gives-error max bytes Long (Err Long) lt g h = refl
Gives-error max bytes Long (Err Range) lt g h = absurd (long_or_beyond max bytes g h)
Gives-error max bytes Range (Err Ends) lt g h = absurd (ends_or_beyond max bytes h g)
Gives-error max bytes Range (Err Long) lt g h = absurd (long_or_beyond max bytes h g)
Gives-error max bytes Range (Err Range) lt g h = refl

-- a pair of equal parts
same_pair : (a b m n : ℕ) → a ≡ m → b ≡ n → ◌≡◌ {A = Result (ℕ × ℕ) UlebError} (Ok (a, b)) (Ok (m, n))
same_pair a b m n p q = cc

-- a number's form is read whole
pub Gives-spelled : (max : ℕ) (bytes : List ℕ) (r : Result (ℕ × ℕ) UlebError) → max < 2 ^ 64 → Gives 10 max bytes r
    → (n : ℕ) (rest : List ℕ) → n ≤ max → bytes ≡ uleb n ++ rest → r ≡ Ok (n, length (uleb n))
Gives-spelled max bytes (Err e) lt g n rest le t =
    absurd (none-some (n, rest) (sym (error_is_none max bytes e lt g) ∙ (ap (number_from max) t ∙ number_from-uleb max n rest (omega arith) le)))
Gives-spelled max bytes (Ok f) lt g n rest le t =
    let p = some_pair_parts f.0 n (drop f.1 bytes) rest (sym (found_is_some max f.0 f.1 bytes g) ∙ (ap (number_from max) t ∙ number_from-uleb max n rest (omega arith) le)) in
    let within : f.1 ≤ length bytes = g.within in
    let left : length bytes - f.1 ≡ length rest = sym (length-drop f.1 bytes) ∙ ap length p.1 in
    let whole : length bytes ≡ length (uleb n) + length rest = ap length t ∙ length-append (uleb n) rest in
    let used : f.1 ≡ length (uleb n) = omega arith in
    same_pair f.0 f.1 n (length (uleb n)) p.0 used
