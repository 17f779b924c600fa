-- Blocks tile the code: which block an instruction stands in, and what is stated where a block begins.
use Rattle.mv_soundness.proofs.Guided.Common.{◌≡◌, ℕ, zero, suc, ◌+◌, List, [], ◌∷◌, map, length, true, false, refl, sym, ◌∙◌, ap, subst, arith, Bool, Option, Some, option_map, ◌≤◌}
use Rattle.mv_soundness.proofs.Guided.Common.{cond, and_from, eqb-true, leb-true, false_from_ne_true, same_Some, option_and_then_some, slice_get, ◌==◌, nat_le, zip, option_and_then, ⊤}
use Rattle.mv_soundness.proofs.Guided.Common.{◌&&◌, Instruction, stated_at, Block, leads_to}
use Rattle.std.specs.Prelude.{find}
use Rattle.std.proofs.lemmas.Bool.{le-leb, and_right}
use Rattle.mv_cfg.specs.Blocks.{blocks_at, block_between}
use Rattle.mv_cfg.proofs.Tiling.{Tiles as Tiling}

-- blocks, each with something said of it, that ascend and don't overlap
abbrev pub Tiles : {S : Type 0} → ℕ → List (Block × S) → Type 0
Tiles low [] = ⊤
Tiles low (z ∷ zs) = (low ≤ z.0.first) × (z.0.first ≤ z.0.last) × Tiles (z.0.last + 1) zs

pub tiles-zip : {S : Type 0} (base size : ℕ) (bs : List Block) (st : List S) → Tiling base bs size → Tiles base (zip bs st)
tiles-zip base size (b ∷ bs) (s ∷ st) t = let first : b.first ≡ base = t.0 in (omega (arith, first), t.1.0, tiles-zip (b.last + 1) size bs st t.1.1)
tiles-zip base size bs st t = tt

-- what a search finds is there and passes the test
pub find-has : {X : Type 0} (p : X → Bool) (xs : List X) (z : X) → find p xs ≡ Some z → (k : ℕ) × (slice_get xs k ≡ Some z) × (p z ≡ true)
find-has p [] z e = absurd cc
find-has p (x ∷ xs) z e = by_case (p x) refl e (λ g. find-has p xs z g)
  where
    by_case : (b : Bool) → p x ≡ b → cond b (Some x) (find p xs) ≡ Some z → (find p xs ≡ Some z → (k : ℕ) × (slice_get xs k ≡ Some z) × (p z ≡ true))
        → (k : ℕ) × (slice_get (x ∷ xs) k ≡ Some z) × (p z ≡ true)
    by_case true h g further = (0, g, ap p (sym (same_Some x z g)) ∙ h)
    by_case false h g further = let t = further g in (suc t.0, t.1, t.2)

abbrev pub holds_place : {S : Type 0} → ℕ → Block × S → Bool
holds_place i b = nat_le b.0.first i && nat_le i b.0.last

-- the search for the block of a place finds the one that has it
pub tile-found : {S : Type 0} (low : ℕ) (zs : List (Block × S)) (k i : ℕ) (z : Block × S) → Tiles low zs → slice_get zs k ≡ Some z → z.0.first ≤ i
    → i ≤ z.0.last → (find (holds_place i) zs ≡ Some z) × (low ≤ z.0.first)
tile-found low [] k i z t e a b = absurd cc
tile-found {S = S} low (y ∷ zs) zero i z t e a b =
    let same = same_Some y z e in
    let test : holds_place i y ≡ true = subst (λ x. holds_place i x ≡ true) (sym same) (and_from (nat_le z.0.first i) (nat_le i z.0.last) (le-leb z.0.first i a) (le-leb i z.0.last b)) in
    (ap (λ c. cond c (Some y) (find (holds_place i) zs)) test ∙ e, subst (λ (x : Block × S). low ≤ x.0.first) same t.0)
tile-found {S = S} low (y ∷ zs) (suc k) i z t e a b =
    let rest = tile-found (y.0.last + 1) zs k i z t.2 e a b in
    let above : y.0.last + 1 ≤ z.0.first = rest.1 in
    let far : nat_le i y.0.last ≡ false = false_from_ne_true (nat_le i y.0.last) (λ h. let small : i ≤ y.0.last = leb-true i y.0.last h in absurd (omega (arith, small, above, a))) in
    let test : holds_place i y ≡ false = and_right (nat_le y.0.first i) (nat_le i y.0.last) far in
    let lower : low ≤ z.0.first = omega (arith, above, t.0, t.1) in
    (ap (λ c. cond c (Some y) (find (holds_place i) zs)) test ∙ rest.0, lower)

pub tile-ordered : {S : Type 0} (low : ℕ) (zs : List (Block × S)) (k : ℕ) (z : Block × S) → Tiles low zs → slice_get zs k ≡ Some z → z.0.first ≤ z.0.last
tile-ordered low [] k z t e = absurd cc
tile-ordered {S = S} low (y ∷ zs) zero z t e = subst (λ (x : Block × S). x.0.first ≤ x.0.last) (same_Some y z e) t.1
tile-ordered {S = S} low (y ∷ zs) (suc k) z t e = tile-ordered (y.0.last + 1) zs k z t.2 e

-- ---- what is stated

pub zip-parts : {A B : Type 0} (xs : List A) (ys : List B) (k : ℕ) (z : A × B) → slice_get (zip xs ys) k ≡ Some z → (slice_get xs k ≡ Some z.0) × (slice_get ys k ≡ Some z.1)
zip-parts {A = A} {B = B} (x ∷ xs) (y ∷ ys) zero z e = let same = same_Some (x, y) z e in (ap (λ (u : A × B). Some u.0) same, ap (λ (u : A × B). Some u.1) same)
zip-parts {A = A} {B = B} (x ∷ xs) (y ∷ ys) (suc k) z e = zip-parts xs ys k z e
zip-parts {A = A} {B = B} x ys k z e = absurd cc

pub zip-maps : {A B C : Type 0} (g : B → C) (xs : List A) (ys : List B) (k : ℕ) (z : A × B) → slice_get (zip xs ys) k ≡ Some z → slice_get (zip xs (map g ys)) k ≡ Some (z.0, g z.1)
zip-maps {A = A} {B = B} {C = C} g (x ∷ xs) (y ∷ ys) zero z e = ap (λ (u : A × B). Some (u.0, g u.1)) (same_Some (x, y) z e)
zip-maps {A = A} {B = B} {C = C} g (x ∷ xs) (y ∷ ys) (suc k) z e = zip-maps g xs ys k z e
zip-maps {A = A} {B = B} {C = C} g x ys k z e = absurd cc

pub stated-maps : {S U : Type 0} (f : S → U) (bs : List Block) (st : List (Option S)) (i : ℕ) → stated_at (zip bs (map (option_map f) st)) i ≡ option_map f (stated_at (zip bs st) i)
stated-maps {S = S} {U = U} f (b ∷ bs) (s ∷ st) i = by_case (b.first == i) (stated-maps f bs st i)
  where
    by_case : (c : Bool) → stated_at (zip bs (map (option_map f) st)) i ≡ option_map f (stated_at (zip bs st) i)
        → option_and_then (λ z. z.1) (cond c (Some (b, option_map f s)) (find (λ (z : Block × Option U). z.0.first == i) (zip bs (map (option_map f) st))))
        ≡ option_map f (option_and_then (λ z. z.1) (cond c (Some (b, s)) (find (λ (z : Block × Option S). z.0.first == i) (zip bs st))))
    by_case true ih = refl
    by_case false ih = ih
stated-maps {S = S} {U = U} f x st i = refl

-- what is stated of a place is stated of a block that begins there
pub stated-has : {S : Type 0} (zs : List (Block × Option S)) (i : ℕ) (s : S) → stated_at zs i ≡ Some s → (k : ℕ) × (z : Block × Option S) × (slice_get zs k ≡ Some z) × (z.0.first ≡ i) × (z.1 ≡ Some s)
stated-has {S = S} zs i s e =
    option_and_then_some (λ (b : Block × Option S). b.1) (find (λ b. b.0.first == i) zs) s e (λ z f g.
    let t = find-has (λ (b : Block × Option S). b.0.first == i) zs z f in (t.0, z, t.1, eqb-true z.0.first i t.2, g))

pub next-is : (code : List Instruction) (starts : List ℕ) (k : ℕ) (b : Block) → slice_get (blocks_at code starts) k ≡ Some b → b.next ≡ leads_to code b.last
next-is code (i ∷ []) zero b e = subst (λ (x : Block). x.next ≡ leads_to code x.last) (same_Some (block_between code i (length code)) b e) refl
next-is code (i ∷ j ∷ starts) zero b e = subst (λ (x : Block). x.next ≡ leads_to code x.last) (same_Some (block_between code i j) b e) refl
next-is code (i ∷ j ∷ starts) (suc k) b e = next-is code (j ∷ starts) k b e
next-is code starts k b e = absurd cc
