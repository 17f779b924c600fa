-- Lists whose entries differ.
use Rattle.mv_bounds.proofs.Common.{[], ℕ, ◌&&◌, ◌∙◌, ◌∷◌, ◌≡◌, ◌≤◌, Bool, List, Result, ap, ap₂, arith, cond, eqb, false, length, map, ne_eqb, not, refl, suc, sym, true}
use Rattle.mv_bounds.proofs.Common.{IfOk-weaker, IfOk, all_differ}
use Rattle.std.proofs.Common.{◌||◌}
use Rattle.std.specs.List.{list_any}
use Rattle.std.specs.Set.{distinct_count, unique_keys}
use Rattle.std.proofs.lemmas.Map.Made.{distinct_count-le}
use Rattle.std.proofs.Math.Dec.{eqb-suc-suc}

-- one entry more, which is among the others or not
count_step : {K : Type 0} (b : Bool) (x : K) (us : List K) (n : ℕ) (r : Bool) → length us ≤ n → eqb (length us) n ≡ r → eqb (length (cond b us (x ∷ us))) (suc n) ≡ (not b && r)
count_step true x us n r le e = ne_eqb (length us) (suc n) (λ same. omega (arith, same, le))
count_step false x us n r le e = eqb-suc-suc (length us) n ∙ e

-- there are as many different entries as entries, exactly where no two are equal
pub all_differ_by_count : {K : Type 0} (eq : K → K → Bool) (xs : List K) → eqb (distinct_count eq xs) (length xs) ≡ all_differ eq xs
all_differ_by_count eq [] = refl
all_differ_by_count eq (x ∷ xs) =
    count_step (list_any (eq x) xs) x (unique_keys eq xs) (length xs) (all_differ eq xs) (distinct_count-le eq xs) (all_differ_by_count eq xs)

-- a test of what entries are mapped to
list_any_mapped : {X K : Type 0} (f : X → K) (p : K → Bool) (xs : List X) → list_any p (map f xs) ≡ list_any (λ x. p (f x)) xs
list_any_mapped f p [] = refl
list_any_mapped f p (x ∷ xs) = ap (λ b. p (f x) || b) (list_any_mapped f p xs)

-- two tests that answer alike
any_alike : {K : Type 0} (p q : K → Bool) (xs : List K) → ((x : K) → p x ≡ q x) → list_any p xs ≡ list_any q xs
any_alike p q [] e = refl
any_alike p q (x ∷ xs) e = ap₂ (λ b c. b || c) (e x) (any_alike p q xs e)

-- entries differ by what they are mapped to
pub all_differ_mapped : {X K : Type 0} (f : X → K) (eq : K → K → Bool) (xs : List X) → all_differ eq (map f xs) ≡ all_differ (λ a b. eq (f a) (f b)) xs
all_differ_mapped f eq [] = refl
all_differ_mapped f eq (x ∷ xs) =
    ap (λ b. not b && all_differ eq (map f xs)) (list_any_mapped f (eq (f x)) xs)
    ∙ ap (λ r. not (list_any (λ y. eq (f x) (f y)) xs) && r) (all_differ_mapped f eq xs)

-- what was answered of the keys, of the entries that have them
pub answer_of_keys : {X K E : Type 0} (f : X → K) (eq : K → K → Bool) (xs : List X) (keys : List K) (r : Result Bool E) → keys ≡ map f xs
    → IfOk r (λ b. b ≡ all_differ eq keys) → IfOk r (λ b. b ≡ all_differ (λ a b. eq (f a) (f b)) xs)
answer_of_keys f eq xs keys r e h =
    IfOk-weaker r (λ b. b ≡ all_differ eq keys) (λ b. b ≡ all_differ (λ a b. eq (f a) (f b)) xs) (λ b k. k ∙ ap (all_differ eq) e ∙ all_differ_mapped f eq xs) h

-- what is left begins with an entry that does not
pub first_differs : {X : Type 0} (same : X → X → Bool) (xs left : List X) (x : X) (others : List X) → all_differ same xs ≡ all_differ same left
    → left ≡ x ∷ others → list_any (same x) others ≡ false → all_differ same xs ≡ all_differ same others
first_differs same xs left x others all begins here =
    all ∙ ap (all_differ same) begins ∙ ap (λ b. not b && all_differ same others) here

-- entries differ alike by two tests that answer alike
pub all_differ_alike : {K : Type 0} (same other : K → K → Bool) (xs : List K) → ((x y : K) → same x y ≡ other x y) → all_differ same xs ≡ all_differ other xs
all_differ_alike same other [] e = refl
all_differ_alike same other (x ∷ xs) e =
    ap₂ (λ b c. not b && c) (any_alike (same x) (other x) xs (e x)) (all_differ_alike same other xs e)

-- what was answered of keys, of the entries whose keys they are, where equal keys tell equal entries
pub answer_by_keys : {X K V E : Type 0} (now : K → V) (key : X → V) (eq : V → V → Bool) (same : X → X → Bool) (keys : List K) (xs : List X) (r : Result Bool E)
    → map now keys ≡ map key xs → ((x y : X) → eq (key x) (key y) ≡ same x y) → IfOk r (λ b. b ≡ all_differ (λ k l. eq (now k) (now l)) keys)
    → IfOk r (λ b. b ≡ all_differ same xs)
answer_by_keys now key eq same keys xs r are tell h =
    IfOk-weaker r (λ b. b ≡ all_differ (λ k l. eq (now k) (now l)) keys) (λ b. b ≡ all_differ same xs)
    (λ b e. e ∙ sym (all_differ_mapped now eq keys) ∙ ap (all_differ eq) are ∙ all_differ_mapped key eq xs ∙ all_differ_alike (λ x y. eq (key x) (key y)) same xs tell) h

-- fewer than two entries differ
pub few_differ : {K : Type 0} (eq : K → K → Bool) (xs : List K) → length xs ≤ 1 → all_differ eq xs ≡ true
few_differ eq [] few = refl
few_differ eq (x ∷ []) few = refl
few_differ eq (x ∷ (y ∷ xs)) few = absurd (omega (arith, few))
