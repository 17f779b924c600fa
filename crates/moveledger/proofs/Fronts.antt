-- What is read of known bytes, part by part: all of them, or enough of them to tell why they are not loaded.
use Rattle.std.proofs.Common.{◌≡◌, ℕ, ◌-◌, ◌<◌, List, [], ◌∷◌, ◌++◌, length, take, arith, refl, sym, ap, ◌∙◌, subst, append-nil, append_assoc, Option, Some, None, IfSome}
use Rattle.std.specs.Io.KnownBytes.{Consumes, IsAtEnd}
use Rattle.mv_saved_text.specs.Loading.{FailsLoad, LongerFail}

-- all of them
pub whole-read : (given left : Option (List ℕ)) (bytes : List ℕ) → Consumes given left bytes → IsAtEnd left → IfSome given (λ xs. bytes ≡ xs)
whole-read None left bytes taken end = tt
whole-read (Some xs) None bytes taken end = absurd taken
whole-read (Some xs) (Some ys) bytes taken end = sym (taken ∙ ap (λ l. bytes ++ l) end ∙ append-nil bytes)

-- enough of them
pub fails-read : (given left : Option (List ℕ)) (bytes : List ℕ) (number : ℕ) → Consumes given left bytes → ((more : List ℕ) → FailsLoad (bytes ++ more) number)
    → IfSome given (λ xs. FailsLoad xs number)
fails-read None left bytes number taken fails = tt
fails-read (Some xs) None bytes number taken fails = absurd taken
fails-read (Some xs) (Some ys) bytes number taken fails = subst (λ (l : List ℕ). FailsLoad l number) (sym taken) (fails ys)

-- the last byte apart
last-apart : (b : ℕ) (bytes : List ℕ) → (last : ℕ) × (b ∷ bytes ≡ take (length bytes) (b ∷ bytes) ++ last ∷ [])
last-apart b [] = (b, refl)
last-apart b (c ∷ bytes) = let p = last-apart c bytes in (p.0, ap (λ l. b ∷ l) p.1)

-- each text that begins so is longer than these bytes but for the last one
pub longer-fails : (bytes front : List ℕ) (number : ℕ) → 0 < length bytes → front ≡ take (length bytes - 1) bytes → LongerFail front number → (more : List ℕ) → FailsLoad (bytes ++ more) number
longer-fails [] front number some is fails more = absurd (omega (arith, some))
longer-fails (b ∷ bytes) front number some is fails more =
    let p = last-apart b bytes in
    let one : length (b ∷ bytes) - 1 ≡ length bytes = omega arith in
    let apart : b ∷ bytes ≡ front ++ p.0 ∷ [] = p.1 ∙ ap (λ n. take n (b ∷ bytes) ++ p.0 ∷ []) (sym one) ∙ ap (λ l. l ++ p.0 ∷ []) (sym is) in
    let all : (b ∷ bytes) ++ more ≡ front ++ p.0 ∷ more = ap (λ l. l ++ more) apart ∙ append_assoc front (p.0 ∷ []) more in
    subst (λ (l : List ℕ). FailsLoad l number) (sym all) (fails p.0 more)

pub longer-found : (bytes front : List ℕ) (found : Option ℕ) → (bytes ≡ [] → ⊥) → front ≡ take (length bytes - 1) bytes → IfSome found (LongerFail front)
    → IfSome found (λ number. (more : List ℕ) → FailsLoad (bytes ++ more) number)
longer-found bytes front None some is fails = tt
longer-found [] front (Some number) some is fails = absurd (some refl)
longer-found (b ∷ bytes) front (Some number) some is fails = longer-fails (b ∷ bytes) front number (omega arith) is fails

-- a number that was found
pub found-fails : (read bytes : List ℕ) (found : Option ℕ) (number : ℕ) → read ≡ bytes → found ≡ Some number → IfSome found (λ number. (more : List ℕ) → FailsLoad (read ++ more) number)
    → (more : List ℕ) → FailsLoad (bytes ++ more) number
found-fails read bytes found number same is fails more =
    subst (λ (l : List ℕ). FailsLoad (l ++ more) number) same (subst (λ (o : Option ℕ). IfSome o (λ number. (more : List ℕ) → FailsLoad (read ++ more) number)) is fails more)
