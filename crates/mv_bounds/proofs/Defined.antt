-- Handles with one definition each.
use Rattle.mv_bounds.proofs.Common.{[], ℕ, ◌&&◌, ◌+◌, ◌<◌, ◌==◌, ◌∙◌, ◌∷◌, ◌≡◌, ◌≤◌, Bool, List, Result, ap, arith, cond, count_by, eq-eqb, false, get_or, get_or-set_other, get_or-set_same}
use Rattle.mv_bounds.proofs.Common.{inl, inr, length, length-set, map, ne_eqb, refl, set, subst, suc, sym, take, true, zero, cases_eq, get_or_read, length-map, length-take-le, IfOk-weaker}
use Rattle.mv_bounds.proofs.Common.{slice_get, IfOk, defined_once}
use mir.Val.{bool_byte}
use Rattle.std.specs.Option.{option_map_or}
use Rattle.std.proofs.lemmas.Bool.{and_left, and_right}
use Rattle.std.proofs.lemmas.List.Sums.{count_by_more_yes, count_by_more_no, count_by-le-length}

-- the counts of the numbers below n among the first i items
pub record Counted (counts items : List ℕ) (n i : ℕ) : Type 0 where
  pub len : length counts ≡ n
  pub each : (k : ℕ) → k < n → get_or counts k 0 ≡ count_by (λ x. x == k) (take i items)

-- one item more, which is a number below n
pub counted_hit : (counts items : List ℕ) (n i at count : ℕ) (after : List ℕ) → Counted counts items n i → i < length items → at ≡ get_or items i 0
    → at < n → count ≡ get_or counts at count → after ≡ set counts at (count + 1) → Counted after items n (i + 1)
counted_hit counts items n i at count after c inside here low is wrote =
    let low' : at < length counts = omega (arith, c.len) in
    let at_here : get_or after at 0 ≡ count_by (λ x. x == at) (take (i + 1) items) =
    ap (λ xs. get_or xs at 0) wrote ∙ get_or-set_same counts at (count + 1) 0 low'
    ∙ ap (λ v. v + 1) (get_or_read counts at count low' is 0 ∙ c.each at low)
    ∙ sym (count_by_more_yes (λ x. x == at) items i 0 inside (eq-eqb _ _ (sym here))) in
    record {
      len = ap length wrote ∙ length-set counts at (count + 1) ∙ c.len;
      each = λ k h. elim (cases_eq k at) [
        | inl e ↦ subst (λ (j : ℕ). get_or after j 0 ≡ count_by (λ x. x == j) (take (i + 1) items)) (sym e) at_here
        | inr ne ↦ ap (λ xs. get_or xs k 0) wrote ∙ get_or-set_other counts at k (count + 1) 0 ne ∙ c.each k h
            ∙ sym (count_by_more_no (λ x. x == k) items i 0 inside (ne_eqb _ _ (λ e. ne (sym e ∙ sym here))))
      ];
    }

-- one item more, which is not
pub counted_miss : (counts items : List ℕ) (n i at : ℕ) (after : List ℕ) → Counted counts items n i → i < length items → at ≡ get_or items i 0 → n ≤ at → after ≡ counts → Counted after items n (i + 1)
counted_miss counts items n i at after c inside here high kept =
    record {
      len = ap length kept ∙ c.len;
      each = λ k h.
          let ne : get_or items i 0 ≡ k → ⊥ = λ e. omega (arith, here, e, h, high) in
          ap (λ xs. get_or xs k 0) kept ∙ c.each k h ∙ sym (count_by_more_no (λ x. x == k) items i 0 inside (ne_eqb _ _ ne));
    }

-- a count so far is at most the items so far
pub counted_low : (counts items : List ℕ) (n i at count : ℕ) → Counted counts items n i → i < length items → at < n → count ≡ get_or counts at count → count ≤ i
counted_low counts items n i at count c inside low is =
    let here : count ≡ count_by (λ x. x == at) (take i items) = get_or_read counts at count (omega (arith, low, c.len)) is 0 ∙ c.each at low in
    let within : length (take i items) ≤ i = omega (arith, length-take-le i items (omega arith)) in
    omega (arith, here, count_by-le-length (λ x. x == at) (take i items), within)

-- one handle without its definition
pub fails_at : (home : ℕ → ℕ) (own n : ℕ) (defined : List ℕ) (h : ℕ) → h < n → (count_by (λ d. d == h) defined == cond (home h == own) 1 0) ≡ false → defined_once home own n defined ≡ false
fails_at home own zero defined h low fails = absurd (omega (arith, low))
fails_at home own (suc n) defined h low fails =
    elim (cases_eq n h) [
      | inl e ↦ and_left (count_by (λ d. d == n) defined == cond (home n == own) 1 0) (defined_once home own n defined)
          (subst (λ (k : ℕ). (count_by (λ d. d == k) defined == cond (home k == own) 1 0) ≡ false) (sym e) fails)
      | inr ne ↦ and_right (count_by (λ d. d == n) defined == cond (home n == own) 1 0) (defined_once home own n defined)
          (fails_at home own n defined h (omega (arith, low, ne)) fails)
    ]

-- a truth value as a number
pub number_of : (b : Bool) → bool_byte b ≡ cond b 1 0
number_of true = refl
number_of false = refl

-- the same homes
same_homes : (f g : ℕ → ℕ) (own n : ℕ) (defined : List ℕ) → ((h : ℕ) → f h ≡ g h) → defined_once f own n defined ≡ defined_once g own n defined
same_homes f g own zero defined e = refl
same_homes f g own (suc n) defined e =
    ap (λ home. (count_by (λ d. d == n) defined == cond (home == own) 1 0) && defined_once f own n defined) (e n)
    ∙ ap (λ rest. (count_by (λ d. d == n) defined == cond (g n == own) 1 0) && rest) (same_homes f g own n defined e)

-- a home by its index
home_at : {H : Type 0} (home : H → ℕ) (handles : List H) (h : ℕ) → get_or (map home handles) h 0 ≡ option_map_or home (slice_get handles h) 0
home_at home [] h = refl
home_at home (x ∷ xs) zero = refl
home_at home (x ∷ xs) (suc h) = home_at home xs h

-- what was answered of the homes, of the handles that have them
pub answer_of_homes : {H E : Type 0} (home : H → ℕ) (handles : List H) (homes : List ℕ) (own' own : ℕ) (given defined : List ℕ) (r : Result Bool E)
    → homes ≡ map home handles → own' ≡ own → given ≡ defined → IfOk r (λ b. b ≡ defined_once (λ h. get_or homes h 0) own' (length homes) given)
    → IfOk r (λ b. b ≡ defined_once (λ h. option_map_or home (slice_get handles h) 0) own (length handles) defined)
answer_of_homes home handles homes own' own given defined r eh eo ed k =
    IfOk-weaker r (λ b. b ≡ defined_once (λ h. get_or homes h 0) own' (length homes) given)
    (λ b. b ≡ defined_once (λ h. option_map_or home (slice_get handles h) 0) own (length handles) defined)
    (λ b e. e ∙ ap (λ o. defined_once (λ h. get_or homes h 0) o (length homes) given) eo
    ∙ ap (λ hs. defined_once (λ h. get_or hs h 0) own (length hs) given) eh
    ∙ ap (λ ds. defined_once (λ h. get_or (map home handles) h 0) own (length (map home handles)) ds) ed
    ∙ ap (λ n. defined_once (λ h. get_or (map home handles) h 0) own n defined) (length-map handles home)
    ∙ same_homes (λ h. get_or (map home handles) h 0) (λ h. option_map_or home (slice_get handles h) 0) own (length handles) defined (home_at home handles)) k
