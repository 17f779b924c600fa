-- The order of keys is a total order, and it tells all keys apart.
use Rattle.mv_storage.proofs.Common.{ℕ, ◌==◌, ◌||◌, ◌∙◌, ◌≡◌, ◌⊎◌, Bool, ap, arith, cond, false, inl, inr, refl, sym, true, nat_tests, is_eq, is_lt, Less, Key, key_before, same_key, key_cmp}
use Rattle.std.proofs.Common.{◌&&◌, nat_lt}
use Rattle.std.specs.declared.cmp.Ordering.{Ordering}
use Rattle.std.specs.declared.cmp.Ordering.TheVariants.{Equal, Greater}
use Rattle.std.specs.Ordering.{nat_cmp, ordering_then, ordering_reverse}
use Rattle.std.specs.Cmp.{IsTotalOrder}
use Rattle.std.proofs.lemmas.Cmp.{nat_cmp_total, on_total, then_total, eq_by_cmp_equiv, tied_itself}
use Rattle.std.proofs.lemmas.Bool.{and_parts}

pub key_cmp_total : IsTotalOrder key_cmp
key_cmp_total =
    then_total (on_total (λ (k : Key). k.address) nat_cmp_total) (then_total (on_total (λ (k : Key). k.place) nat_cmp_total) (on_total (λ (k : Key). k.index) nat_cmp_total))

lt-is : (x y : ℕ) → nat_lt x y ≡ is_lt (nat_cmp x y)
lt-is x y = elim (nat_lt x y) as (λ p. p ≡ is_lt (cond p Less (cond (x == y) Equal Greater))) [ true ↦ refl | false ↦ elim (x == y) as (λ q. false ≡ is_lt (cond q Equal Greater)) [ true ↦ refl | false ↦ refl ] ]

eq-is : (x y : ℕ) → (x == y) ≡ is_eq (nat_cmp x y)
eq-is x y = grind (arith, nat_tests)

before-then : (o p q : Ordering) → (is_lt o || is_eq o && (is_lt p || is_eq p && is_lt q)) ≡ is_lt (ordering_then o (ordering_then p q))
before-then Equal Less q = refl
before-then o p q = refl

same-then : (o p q : Ordering) → (is_eq o && is_eq p && is_eq q) ≡ is_eq (ordering_then o (ordering_then p q))
same-then Equal Less q = refl
same-then o p q = refl

before-from : (o p q : Ordering) (l e m f n : Bool) → l ≡ is_lt o → e ≡ is_eq o → m ≡ is_lt p → f ≡ is_eq p → n ≡ is_lt q
    → (l || e && (m || f && n)) ≡ is_lt (ordering_then o (ordering_then p q))
before-from o p q l e m f n a b c d g = rw (a, b, c, d, g) (before-then o p q)

same-from : (o p q : Ordering) (e f g : Bool) → e ≡ is_eq o → f ≡ is_eq p → g ≡ is_eq q
    → (e && f && g) ≡ is_eq (ordering_then o (ordering_then p q))
same-from o p q e f g a b c = rw (a, b, c) (same-then o p q)

pub key_before-is : (a b : Key) → key_before a b ≡ is_lt (key_cmp a b)
key_before-is a b =
    before-from (nat_cmp a.address b.address) (nat_cmp a.place b.place) (nat_cmp a.index b.index) _ _ _ _ _
    (lt-is a.address b.address) (eq-is a.address b.address) (lt-is a.place b.place) (eq-is a.place b.place) (lt-is a.index b.index)

pub same_key-is : (a b : Key) → same_key a b ≡ is_eq (key_cmp a b)
same_key-is a b =
    same-from (nat_cmp a.address b.address) (nat_cmp a.place b.place) (nat_cmp a.index b.index) _ _ _
    (eq-is a.address b.address) (eq-is a.place b.place) (eq-is a.index b.index)

pub same_key-refl : (a : Key) → same_key a a ≡ true
same_key-refl a = same_key-is a a ∙ ap is_eq (tied_itself key_cmp_total a)

eq-to : (x y : ℕ) → (x == y) ≡ true → x ≡ y
eq-to x y e = grind (arith, nat_tests)

pub same_key-to : (a b : Key) → same_key a b ≡ true → a ≡ b
same_key-to a b e =
    let both = and_parts ((a.address == b.address) && (a.place == b.place)) (a.index == b.index) e in
    let first = and_parts (a.address == b.address) (a.place == b.place) both.0 in
    let p : a.address ≡ b.address = eq-to a.address b.address first.0 in
    let q : a.place ≡ b.place = eq-to a.place b.place first.1 in
    let r : a.index ≡ b.index = eq-to a.index b.index both.1 in
    let e : make a.address a.place a.index ≡ make b.address b.place b.index = cc in
    e
  where
    make : ℕ → ℕ → ℕ → Key
    make x y z = record { address = x; place = y; index = z }

pub same_key-symm : (a b : Key) → same_key a b ≡ same_key b a
same_key-symm a b =
    let laws = eq_by_cmp_equiv key_cmp_total in
    same_key-is a b ∙ laws.symm a b ∙ sym (same_key-is b a)

-- a key that comes before another isn't that one
pub before-apart : (a b : Key) → key_before a b ≡ true → same_key a b ≡ false
before-apart a b e = by (key_cmp a b) (sym (key_before-is a b) ∙ e) (same_key-is a b)
  where
    by : (o : Ordering) → is_lt o ≡ true → same_key a b ≡ is_eq o → same_key a b ≡ false
    by Less l s = s
    by Equal l s = cc
    by Greater l s = cc

pub before-trans : (a b c : Key) → key_before a b ≡ true → key_before b c ≡ true → key_before a c ≡ true
before-trans a b c p q =
    key_before-is a c ∙ ap is_lt (key_cmp_total.trans a b c (less _ (sym (key_before-is a b) ∙ p)) (less _ (sym (key_before-is b c) ∙ q)))
  where
    less : (o : Ordering) → is_lt o ≡ true → o ≡ Less
    less Less e = refl
    less Equal e = cc
    less Greater e = cc

-- of two keys one is first, or they are one
pub keys_compare : (a b : Key) → (same_key a b ≡ true) ⊎ ((key_before a b ≡ true) ⊎ (key_before b a ≡ true))
keys_compare a b = by (key_cmp a b) (key_cmp b a) (key_cmp_total.antisymm b a) (same_key-is a b) (key_before-is a b) (key_before-is b a)
  where
    by : (o p : Ordering) → p ≡ ordering_reverse o → same_key a b ≡ is_eq o → key_before a b ≡ is_lt o → key_before b a ≡ is_lt p
        → (same_key a b ≡ true) ⊎ ((key_before a b ≡ true) ⊎ (key_before b a ≡ true))
    by Less p r s u v = inr (inl u)
    by Equal p r s u v = inl s
    by Greater p r s u v = inr (inr (v ∙ ap is_lt r))
