-- Ranges of keys, and the entries that they show.
use Rattle.mv_storage.proofs.Common.{[], ℕ, ⊎_elim, ◌∙◌, ◌∷◌, ◌≡◌, ◌≤◌, ◌==◌, Bool, List, None, Option, Some, ap, arith, false, length, refl, slice_get, sym, true, nat_tests}
use Rattle.mv_storage.proofs.Common.{is_lt, Less, Key, FlatEntry, key_before, layer_at, shown, key_cmp, Committed, Layer, Places, Slot}
use Rattle.std.proofs.Common.{ap₂, ◌+◌, ◌<◌, ◌^◌, ◌&&◌, nat_le, nat_lt, not}
use Rattle.std.specs.declared.cmp.Ordering.{Ordering}
use Rattle.std.specs.declared.cmp.Ordering.TheVariants.{Equal, Greater}
use Rattle.std.specs.declared.ops.Bound.{Bound}
use Rattle.std.specs.declared.ops.Bound.TheVariants.{Included, Excluded, Unbounded}
use Rattle.std.specs.BTreeMap.Range.{entries_between, range_contains}
use Rattle.std.specs.List.{AllByRecursion, filter}
use Rattle.std.specs.Map.{keys_of}
use Rattle.std.specs.Ordering.{is_le, nat_cmp, ordering_then, ordering_reverse}
use Rattle.std.proofs.lemmas.Bool.{cases_Bool}
use Rattle.mv_storage.specs.Slots.{shown_before}
use Rattle.mv_storage.proofs.Shown.{shown_of, shown-length}
use Rattle.mv_storage.proofs.Keys.{key_cmp_total, key_before-is}

-- ---- what the slots of some keys show

module _ (test : Key → Bool) where
  kept-before : (key : Key) (o : Option (List ℕ)) (es : List FlatEntry) → test key ≡ true
      → filter (λ (e : FlatEntry). test e.key) (shown_before key o es) ≡ shown_before key o (filter (λ (e : FlatEntry). test e.key) es)
  kept-before key None es h = refl
  kept-before key (Some w) es h = rw h refl

  left-before : (key : Key) (o : Option (List ℕ)) (es : List FlatEntry) → test key ≡ false
      → filter (λ (e : FlatEntry). test e.key) (shown_before key o es) ≡ filter (λ (e : FlatEntry). test e.key) es
  left-before key None es h = refl
  left-before key (Some w) es h = rw h refl

  pub shown-filter : (layer : Layer) (slots : List Slot) (es : List (Key × ℕ))
      → shown layer slots (filter (λ (e : Key × ℕ). test e.0) es) ≡ filter (λ (e : FlatEntry). test e.key) (shown layer slots es)
  shown-filter layer slots [] = refl
  shown-filter layer slots (e ∷ es) =
      ⊎_elim
      (λ (t : test e.0 ≡ true).
      rw t (ap (shown_before e.0 (layer_at layer (slice_get slots e.1))) (shown-filter layer slots es) ∙ sym (kept-before e.0 (layer_at layer (slice_get slots e.1)) (shown layer slots es) t)))
      (λ (f : test e.0 ≡ false).
      rw f (shown-filter layer slots es ∙ sym (left-before e.0 (layer_at layer (slice_get slots e.1)) (shown layer slots es) f)))
      (cases_Bool (test e.0))

-- all entries
pub filter-all : {X : Type 0} (xs : List X) → filter (λ x. true) xs ≡ xs
filter-all [] = refl
filter-all (x ∷ xs) = ap (λ ys. x ∷ ys) (filter-all xs)

-- ---- which keys are in a range

not-before : (o : Ordering) → is_le o ≡ not (is_lt (ordering_reverse o))
not-before Less = refl
not-before Equal = refl
not-before Greater = refl

and-true : (b : Bool) → (b && true) ≡ b
and-true true = refl
and-true false = refl

-- from a key on
pub from-key : (key q : Key) → range_contains key_cmp (Included key) Unbounded q ≡ not (key_before q key)
from-key key q =
    and-true (is_le (key_cmp key q)) ∙ not-before (key_cmp key q)
    ∙ ap (λ o. not (is_lt o)) (sym (key_cmp_total.antisymm q key)) ∙ ap not (sym (key_before-is q key))

-- the first of all keys at an address
abbrev pub first_key : ℕ → Key
first_key address = record { address = address; place = 0; index = 0 }

le-is : (x y : ℕ) → is_le (nat_cmp x y) ≡ nat_le x y
le-is x y = grind (arith, nat_tests)

zero-le : (n : ℕ) → is_le (nat_cmp 0 n) ≡ true
zero-le n = le-is 0 n ∙ grind (arith, nat_tests)

le-then : (o p q : Ordering) → is_le p ≡ true → is_le q ≡ true → is_le (ordering_then o (ordering_then p q)) ≡ is_le o
le-then Less p q a b = refl
le-then Greater p q a b = refl
le-then Equal Less q a b = refl
le-then Equal Equal q a b = b
le-then Equal Greater q a b = a

pub from-first : (address : ℕ) (q : Key) → is_le (key_cmp (first_key address) q) ≡ nat_le address q.address
from-first address q = le-then (nat_cmp address q.address) (nat_cmp 0 q.place) (nat_cmp 0 q.index) (zero-le q.place) (zero-le q.index) ∙ le-is address q.address

-- the keys at an address
pub at-address : (address : ℕ) (q : Key) → range_contains key_cmp (Included (first_key address)) (Excluded (first_key (address + 1))) q ≡ (q.address == address)
at-address address q = rw (from-first address q, from-first (address + 1) q) (grind (arith, nat_tests))

-- ---- addresses

-- all keys that slots show
pub all-shown : (P : Key → Type 0) (layer : Layer) (slots : List Slot) (es : List (Key × ℕ)) → AllByRecursion P (keys_of es) → AllByRecursion (λ (e : FlatEntry). P e.key) (shown layer slots es)
all-shown P layer slots [] h = tt
all-shown P layer slots (e ∷ es) h = by (layer_at layer (slice_get slots e.1)) (all-shown P layer slots es h.1)
  where
    by : (o : Option (List ℕ)) → AllByRecursion (λ (e : FlatEntry). P e.key) (shown layer slots es) → AllByRecursion (λ (e : FlatEntry). P e.key) (shown_before e.0 o (shown layer slots es))
    by None rest = rest
    by (Some w) rest = (h.0, rest)

-- a key that is not above another has no higher address
not-above : (last q : Key) → is_lt (key_cmp last q) ≡ false → nat_lt last.address q.address ≡ false
not-above last q h = lt-first (nat_cmp last.address q.address) _ h (lt-is last.address q.address)
  where
    lt-is : (x y : ℕ) → is_lt (nat_cmp x y) ≡ nat_lt x y
    lt-is x y = grind (arith, nat_tests)

    lt-first : (o p : Ordering) → is_lt (ordering_then o p) ≡ false → is_lt o ≡ nat_lt last.address q.address → nat_lt last.address q.address ≡ false
    lt-first Less p h e = cc
    lt-first Equal p h e = sym e
    lt-first Greater p h e = sym e

-- so all addresses are below what that of the last key is below
pub below-last : (last : Key) (ks : List Key) → last.address < 2 ^ 128 → AllByRecursion (λ q. is_lt (key_cmp last q) ≡ false) ks → AllByRecursion (λ (k : Key). k.address < 2 ^ 128) ks
below-last last [] small h = tt
below-last last (k ∷ ks) small h = (let e = not-above last k h.0 in grind (arith, nat_tests), below-last last ks small h.1)

-- the last address
pub at-last : (address : ℕ) (es : List FlatEntry) → 2 ^ 128 ≤ address + 1 → AllByRecursion (λ (e : FlatEntry). e.key.address < 2 ^ 128) es
    → filter (λ (e : FlatEntry). range_contains key_cmp (Included (first_key address)) Unbounded e.key) es ≡ filter (λ (e : FlatEntry). e.key.address == address) es
at-last address [] last h = refl
at-last address (e ∷ es) last h =
    let test : range_contains key_cmp (Included (first_key address)) Unbounded e.key ≡ (e.key.address == address) =
    and-true (is_le (key_cmp (first_key address) e.key)) ∙ from-first address e.key ∙ same e.key.address h.0 in
    rw (test, at-last address es last h.1) refl
  where
    same : (x : ℕ) → x < 2 ^ 128 → nat_le address x ≡ (x == address)
    same x small = grind (arith, nat_tests)

-- ---- the entries of a range

pub entries-are : (low high : Bound Key) (p : Places) (slots : List Slot) (range : List (Key × ℕ)) (es : List FlatEntry) → slots ≡ p.slots.items → range ≡ entries_between key_cmp low high p.tree.entries
    → shown_of Committed p ≡ es → shown Committed slots range ≡ filter (λ (e : FlatEntry). range_contains key_cmp low high e.key) es
entries-are low high p slots range es at are is =
    ap₂ (shown Committed) at are ∙ shown-filter (λ q. range_contains key_cmp low high q) Committed p.slots.items p.tree.entries
    ∙ ap (filter (λ (e : FlatEntry). range_contains key_cmp low high e.key)) is

pub entries-few : (slots : List Slot) (range : List (Key × ℕ)) → length range < 2 ^ 63 → length (shown Committed slots range) < 2 ^ 63
entries-few slots range few = omega (arith, few, shown-length Committed slots range)
