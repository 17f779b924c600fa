-- A page of the values of a struct, and where the next one goes on.
use Rattle.mv_storage.proofs.Common.{[], ℕ, ⊎_elim, ◌++◌, ◌<◌, ◌≤◌, ◌∙◌, ◌∷◌, ◌≡◌, ◌==◌, ◌||◌, Bool, List, None, Option, Some, ap, arith, cond, false, length, refl, slice_get, subst, sym, take, true, nat_tests, suc}
use Rattle.mv_storage.proofs.Common.{Key, FlatEntry, key_before, same_key, option_and_then, Ascends, IsBelow}
use Rattle.std.proofs.Common.{append-nil, ap₂, ◌+◌, ◌^◌, ◌&&◌, nat_le, nat_lt, not, zero}
use Rattle.std.specs.List.{AllByRecursion, filter}
use Rattle.std.specs.Option.{option_map_or}
use Rattle.std.specs.Prelude.{IfSome, ⊤}
use Rattle.std.proofs.lemmas.List.Elements.{filter-append}
use Rattle.std.proofs.lemmas.Bool.{and_parts, cases_Bool}
use Rattle.mv_move_types.specs.declared.tables.Definition.{Definition}
use Rattle.mv_storage.specs.Pages.{address_after, is_own, is_up_to, page_of, values_from, IsPage}
use Rattle.mv_storage.proofs.Keys.{before-apart, before-trans, keys_compare, same_key-refl, same_key-to}

-- ---- lists

filter-agree : {X : Type 0} (P : X → Type 0) (p q : X → Bool) → ((x : X) → P x → p x ≡ q x) → (xs : List X) → AllByRecursion P xs → filter p xs ≡ filter q xs
filter-agree P p q same [] h = refl
filter-agree P p q same (x ∷ xs) h = rw (same x h.0, filter-agree P p q same xs h.1) refl

filter-twice : {X : Type 0} (p q : X → Bool) (xs : List X) → filter p (filter q xs) ≡ filter (λ x. q x && p x) xs
filter-twice p q [] = refl
filter-twice p q (x ∷ xs) =
    ⊎_elim
    (λ (t : q x ≡ true). rw t (ap (λ ys. cond (p x) (x ∷ ys) ys) (filter-twice p q xs)))
    (λ (f : q x ≡ false). rw f (filter-twice p q xs))
    (cases_Bool (q x))

filter-no : {X : Type 0} (p : X → Bool) (xs : List X) → AllByRecursion (λ x. p x ≡ false) xs → filter p xs ≡ []
filter-no p [] h = refl
filter-no p (x ∷ xs) h = rw h.0 (filter-no p xs h.1)

all-always : {X : Type 0} (P : X → Type 0) → ((x : X) → P x) → (xs : List X) → AllByRecursion P xs
all-always P h [] = tt
all-always P h (x ∷ xs) = (h x, all-always P h xs)

all-weaker : {X : Type 0} (P Q : X → Type 0) → ((x : X) → P x → Q x) → (xs : List X) → AllByRecursion P xs → AllByRecursion Q xs
all-weaker P Q f [] h = tt
all-weaker P Q f (x ∷ xs) h = (f x h.0, all-weaker P Q f xs h.1)

all-kept : {X : Type 0} (P : X → Type 0) (p : X → Bool) (xs : List X) → AllByRecursion P xs → AllByRecursion P (filter p xs)
all-kept P p [] h = tt
all-kept P p (x ∷ xs) h =
    ⊎_elim (λ (t : p x ≡ true). rw t (h.0, all-kept P p xs h.1)) (λ (f : p x ≡ false). rw f (all-kept P p xs h.1)) (cases_Bool (p x))

all-pass : {X : Type 0} (p : X → Bool) (xs : List X) → AllByRecursion (λ x. p x ≡ true) (filter p xs)
all-pass p [] = tt
all-pass p (x ∷ xs) = ⊎_elim (λ (t : p x ≡ true). rw t (t, all-pass p xs)) (λ (f : p x ≡ false). rw f (all-pass p xs)) (cases_Bool (p x))

-- a list in two at an element
pub split : {X : Type 0} (xs : List X) (n : ℕ) (x : X) → slice_get xs n ≡ Some x → (rest : List X) × (xs ≡ take n xs ++ x ∷ rest)
split [] n x e = cc
split (y ∷ ys) zero x e = let same : y ≡ x = cc in (ys, ap (λ z. z ∷ ys) same)
split (y ∷ ys) (suc n) x e = let s = split ys n x e in (s.0, ap (λ zs. y ∷ zs) s.1)

take-past : {X : Type 0} (xs : List X) (n : ℕ) → slice_get xs n ≡ None → take n xs ≡ xs
take-past [] zero e = refl
take-past [] (suc n) e = refl
take-past (y ∷ ys) zero e = cc
take-past (y ∷ ys) (suc n) e = ap (λ zs. y ∷ zs) (take-past ys n e)

length-part : {X : Type 0} (xs : List X) (n : ℕ) → length (take n xs) ≤ n
length-part [] zero = omega arith
length-part [] (suc n) = omega arith
length-part (y ∷ ys) zero = omega arith
length-part (y ∷ ys) (suc n) = omega (arith, length-part ys n)

length-kept : {X : Type 0} (p : X → Bool) (xs : List X) → length (filter p xs) ≤ length xs
length-kept p [] = omega arith
length-kept p (x ∷ xs) =
    ⊎_elim (λ (t : p x ≡ true). rw t (omega (arith, length-kept p xs))) (λ (f : p x ≡ false). rw f (omega (arith, length-kept p xs))) (cases_Bool (p x))

and-false : (b : Bool) → (b && false) ≡ false
and-false true = refl
and-false false = refl

and-true : (b : Bool) → (b && true) ≡ b
and-true true = refl
and-true false = refl

-- ---- keys in order

-- an entry's key is not before another
abbrev pub is_behind : Key → FlatEntry → Bool
is_behind key e = not (key_before e.key key)

below-all : (low : Key) (es : List FlatEntry) → IsBelow low es → Ascends es → AllByRecursion (λ (e : FlatEntry). key_before low e.key ≡ true) es
below-all low [] b s = tt
below-all low (e ∷ es) b s = (b, all-weaker (λ (f : FlatEntry). key_before e.key f.key ≡ true) (λ (f : FlatEntry). key_before low f.key ≡ true) (λ f h. before-trans low e.key f.key b h) es (below-all e.key es s.0 s.1))

not-back : (a b : Key) → key_before a b ≡ true → key_before b a ≡ false
not-back a b h =
    ⊎_elim
    (λ (t : key_before b a ≡ true). let e : true ≡ false = sym (same_key-refl a) ∙ before-apart a a (before-trans a b a h t) in cc)
    (λ (f : key_before b a ≡ false). f)
    (cases_Bool (key_before b a))

below-one : (low : Key) (xs : List FlatEntry) (e : FlatEntry) (rest : List FlatEntry) → IsBelow low (xs ++ e ∷ rest) → Ascends (xs ++ e ∷ rest) → key_before low e.key ≡ true
below-one low [] e rest b s = b
below-one low (x ∷ xs) e rest b s = before-trans low x.key e.key b (below-one x.key xs e rest s.0 s.1)

-- what is behind an entry, and it
pub behind-is : (xs : List FlatEntry) (e : FlatEntry) (rest : List FlatEntry) → Ascends (xs ++ e ∷ rest) → filter (is_behind e.key) (xs ++ e ∷ rest) ≡ e ∷ rest
behind-is [] e rest s =
    let own : key_before e.key e.key ≡ false =
    ⊎_elim (λ (t : key_before e.key e.key ≡ true). not-back e.key e.key t) (λ (f : key_before e.key e.key ≡ false). f) (cases_Bool (key_before e.key e.key)) in
    rw own (ap (λ es. e ∷ es) (
    filter-agree (λ (f : FlatEntry). key_before e.key f.key ≡ true) (is_behind e.key) (λ f. true) (λ f h. ap not (not-back e.key f.key h)) rest (below-all e.key rest s.0 s.1)
    ∙ every rest))
  where
    every : (es : List FlatEntry) → filter (λ f. true) es ≡ es
    every [] = refl
    every (f ∷ fs) = ap (λ gs. f ∷ gs) (every fs)
behind-is (x ∷ xs) e rest s =
    let before : key_before x.key e.key ≡ true = below-one x.key xs e rest s.0 s.1 in
    rw before (behind-is xs e rest s.1)

Ascends-filter : (p : FlatEntry → Bool) (es : List FlatEntry) → Ascends es → Ascends (filter p es)
Ascends-filter p [] s = tt
Ascends-filter p (e ∷ es) s =
    ⊎_elim
    (λ (t : p e ≡ true). rw t (below (filter p es) (all-kept (λ (f : FlatEntry). key_before e.key f.key ≡ true) p es (below-all e.key es s.0 s.1)), Ascends-filter p es s.1))
    (λ (f : p e ≡ false). rw f (Ascends-filter p es s.1))
    (cases_Bool (p e))
  where
    below : (fs : List FlatEntry) → AllByRecursion (λ (f : FlatEntry). key_before e.key f.key ≡ true) fs → IsBelow e.key fs
    below [] h = tt
    below (f ∷ fs) h = h.0

-- ---- the values of a struct

-- the first key of a struct at an address
abbrev pub own_key : Definition → ℕ → Key
own_key d from = record { address = from; place = d.place; index = d.index }

-- of two structs at one address the one comes behind the other, or comes before it or is it
inner-is : (p i q j : ℕ) → (nat_lt p q || (p == q) && nat_lt i j) ≡ not (nat_lt q p || (q == p) && nat_le j i)
inner-is p i q j = grind (arith, nat_tests)

outer-is : (x y : ℕ) (b : Bool) → not (nat_lt x y || (x == y) && not b) ≡ cond b (nat_le y x) (nat_le (y + 1) x)
outer-is x y true = grind (arith, nat_tests)
outer-is x y false = grind (arith, nat_tests)

place-is : (x y : ℕ) → (x == y) ≡ true → x ≡ y
place-is x y e = grind (arith, nat_tests)

-- when a key of the struct is not before another
behind-own : (d : Definition) (k e : Key) → is_own d k ≡ true → not (key_before k e) ≡ cond (is_up_to e d) (nat_le e.address k.address) (nat_le (e.address + 1) k.address)
behind-own d k e own =
    let parts = and_parts (k.place == d.place) (k.index == d.index) own in
    let p : k.place ≡ d.place = place-is k.place d.place parts.0 in
    let i : k.index ≡ d.index = place-is k.index d.index parts.1 in
    ap (λ (b : Bool). not (nat_lt k.address e.address || (k.address == e.address) && b))
    (ap₂ (λ (x y : ℕ). nat_lt x e.place || (x == e.place) && nat_lt y e.index) p i ∙ inner-is d.place d.index e.place e.index)
    ∙ outer-is k.address e.address (is_up_to e d)

-- among the keys of a struct
own-only : (d : Definition) (k : Key) (b c : Bool) → (is_own d k ≡ true → b ≡ c) → (is_own d k && b) ≡ (c && is_own d k)
own-only d k b c same =
    ⊎_elim
    (λ (own : is_own d k ≡ true). rw own (same own ∙ sym (and-true c)))
    (λ (off : is_own d k ≡ false). rw off (sym (and-false c)))
    (cases_Bool (is_own d k))

-- those at addresses from one on are behind the first one there
own-from : (d : Definition) (from : ℕ) (k : Key) → (is_own d k && nat_le from k.address) ≡ (not (key_before k (own_key d from)) && is_own d k)
own-from d from k =
    own-only d k (nat_le from k.address) (not (key_before k (own_key d from))) (λ own.
    sym (behind-own d k (own_key d from) own ∙ ap (λ (b : Bool). cond b (nat_le from k.address) (nat_le (from + 1) k.address)) here))
  where
    here : is_up_to (own_key d from) d ≡ true
    here = itself d.place d.index
      where
        itself : (p i : ℕ) → (nat_lt p p || (p == p) && nat_le i i) ≡ true
        itself p i = grind (arith, nat_tests)

-- and so they are behind another key, where the address is that which values stand from there
own-after : (d : Definition) (k e : Key) (from : ℕ) → address_after d e ≡ Some from → (is_own d k && nat_le from k.address) ≡ (not (key_before k e) && is_own d k)
own-after d k e from at = own-only d k (nat_le from k.address) (not (key_before k e)) (λ own. sym (behind-own d k e own ∙ by (is_up_to e d) at))
  where
    by : (b : Bool) → cond b (Some e.address) (cond (nat_lt (e.address + 1) (2 ^ 128)) (Some (e.address + 1)) None) ≡ Some from
        → cond b (nat_le e.address k.address) (nat_le (e.address + 1) k.address) ≡ nat_le from k.address
    by true h = let same : e.address ≡ from = cc in ap (λ (n : ℕ). nat_le n k.address) same
    by false h = inside (nat_lt (e.address + 1) (2 ^ 128)) h
      where
        inside : (c : Bool) → cond c (Some (e.address + 1)) None ≡ Some from → nat_le (e.address + 1) k.address ≡ nat_le from k.address
        inside true g = let same : e.address + 1 ≡ from = cc in ap (λ (n : ℕ). nat_le n k.address) same
        inside false g = cc

own-none : (d : Definition) (k e : Key) → k.address < 2 ^ 128 → address_after d e ≡ None → (not (key_before k e) && is_own d k) ≡ false
own-none d k e small at =
    ⊎_elim
    (λ (own : is_own d k ≡ true). rw own (and-true _ ∙ behind-own d k e own ∙ by (is_up_to e d) at))
    (λ (off : is_own d k ≡ false). rw off (and-false _))
    (cases_Bool (is_own d k))
  where
    by : (b : Bool) → cond b (Some e.address) (cond (nat_lt (e.address + 1) (2 ^ 128)) (Some (e.address + 1)) None) ≡ None
        → cond b (nat_le e.address k.address) (nat_le (e.address + 1) k.address) ≡ false
    by true h = cc
    by false h = inside (nat_lt (e.address + 1) (2 ^ 128)) refl h
      where
        inside : (c : Bool) → nat_lt (e.address + 1) (2 ^ 128) ≡ c → cond c (Some (e.address + 1)) None ≡ None → nat_le (e.address + 1) k.address ≡ false
        inside true f g = cc
        inside false f g = past (e.address + 1) k.address small f
          where
            past : (x y : ℕ) → y < 2 ^ 128 → nat_lt x (2 ^ 128) ≡ false → nat_le x y ≡ false
            past x y s l = grind (arith, nat_tests)

-- a key behind the first one of a struct, and not that, has a later address to go on from
later : (d : Definition) (e : Key) (from next : ℕ) → key_before (own_key d from) e ≡ true → address_after d e ≡ Some next → from < next
later d e from next h at = by (is_up_to e d) (sym (ap (λ (b : Bool). nat_lt from e.address || (from == e.address) && b) (inner-is d.place d.index e.place e.index)) ∙ h) at
  where
    by : (b : Bool) → (nat_lt from e.address || (from == e.address) && not b) ≡ true
        → cond b (Some e.address) (cond (nat_lt (e.address + 1) (2 ^ 128)) (Some (e.address + 1)) None) ≡ Some next → from < next
    by true before g = let same : e.address ≡ next = cc in subst (λ (n : ℕ). from < n) same (first from e.address before)
      where
        first : (x y : ℕ) → (nat_lt x y || (x == y) && false) ≡ true → x < y
        first x y l = grind (arith, nat_tests)
    by false before g = inside (nat_lt (e.address + 1) (2 ^ 128)) g
      where
        first : (x y : ℕ) → (nat_lt x y || (x == y) && true) ≡ true → x < y + 1
        first x y l = grind (arith, nat_tests)

        inside : (c : Bool) → cond c (Some (e.address + 1)) None ≡ Some next → from < next
        inside true f = let same : e.address + 1 ≡ next = cc in subst (λ (n : ℕ). from < n) same (first from e.address before)
        inside false f = cc

module _ (d : Definition) (storage : List FlatEntry) (ascends : Ascends storage) (small : AllByRecursion (λ (e : FlatEntry). e.key.address < 2 ^ 128) storage) (from most : ℕ) where
  abbrev own : FlatEntry → Bool
  own e = is_own d e.key

  -- the values from the first key on
  abbrev ahead : List FlatEntry
  ahead = filter (is_behind (own_key d from)) storage

  from-is : values_from storage d from ≡ filter own ahead
  from-is =
      filter-agree (λ e. ⊤) (λ (e : FlatEntry). is_own d e.key && nat_le from e.key.address) (λ (e : FlatEntry). is_behind (own_key d from) e && own e) (λ e h. own-from d from e.key) storage (all-always (λ e. ⊤) (λ e. tt) storage)
      ∙ sym (filter-twice own (is_behind (own_key d from)) storage)

  -- what is left at an entry
  module _ (e : FlatEntry) (rest : List FlatEntry) (parted : ahead ≡ take most ahead ++ e ∷ rest) where
    is-ahead : is_behind (own_key d from) e ≡ true
    is-ahead = last (take most ahead) (subst (λ (es : List FlatEntry). AllByRecursion (λ f. is_behind (own_key d from) f ≡ true) es) parted (all-pass (is_behind (own_key d from)) storage))
      where
        last : (xs : List FlatEntry) → AllByRecursion (λ f. is_behind (own_key d from) f ≡ true) (xs ++ e ∷ rest) → is_behind (own_key d from) e ≡ true
        last [] h = h.0
        last (x ∷ xs) h = last xs h.1

    ascends-ahead : Ascends (take most ahead ++ e ∷ rest)
    ascends-ahead = subst Ascends parted (Ascends-filter (is_behind (own_key d from)) storage ascends)

    -- what is behind it is behind the first key too
    behind-both : (x : FlatEntry) → is_behind e.key x ≡ (is_behind (own_key d from) x && is_behind e.key x)
    behind-both x =
        ⊎_elim
        (λ (t : key_before x.key (own_key d from) ≡ true). rw t (ap not (before-both x t)))
        (λ (f : key_before x.key (own_key d from) ≡ false). rw f refl)
        (cases_Bool (key_before x.key (own_key d from)))
      where
        before-both : (x : FlatEntry) → key_before x.key (own_key d from) ≡ true → key_before x.key e.key ≡ true
        before-both x h =
            ⊎_elim
            (λ (same : same_key (own_key d from) e.key ≡ true). subst (λ (k : Key). key_before x.key k ≡ true) (same_key-to (own_key d from) e.key same) h)
            (⊎_elim
            (λ (t : key_before (own_key d from) e.key ≡ true). before-trans x.key (own_key d from) e.key h t)
            (λ (t : key_before e.key (own_key d from) ≡ true). let bad : false ≡ true = sym (ap not t) ∙ is-ahead in cc))
            (keys_compare (own_key d from) e.key)

    rest-is : filter own (e ∷ rest) ≡ filter (λ (x : FlatEntry). is_behind e.key x && own x) storage
    rest-is =
        ap (filter own) (sym (behind-is (take most ahead) e rest ascends-ahead) ∙ ap (filter (is_behind e.key)) (sym parted) ∙ filter-twice (is_behind e.key) (is_behind (own_key d from)) storage
        ∙ sym (filter-agree (λ x. ⊤) (is_behind e.key) (λ x. is_behind (own_key d from) x && is_behind e.key x) (λ x h. behind-both x) storage (all-always (λ x. ⊤) (λ x. tt) storage)))
        ∙ filter-twice own (is_behind e.key) storage

    left-is : (next : Option ℕ) → address_after d e.key ≡ next → filter own (e ∷ rest) ≡ option_map_or (values_from storage d) next []
    left-is None at = rest-is ∙ filter-no (λ (x : FlatEntry). is_behind e.key x && own x) storage
        (all-weaker (λ (x : FlatEntry). x.key.address < 2 ^ 128) (λ (x : FlatEntry). (is_behind e.key x && own x) ≡ false) (λ x h. own-none d x.key e.key h at) storage small)
    left-is (Some next) at =
        rest-is
        ∙ sym (filter-agree (λ x. ⊤) (λ (x : FlatEntry). is_own d x.key && nat_le next x.key.address) (λ (x : FlatEntry). is_behind e.key x && own x) (λ x h. own-after d x.key e.key next at) storage (all-always (λ x. ⊤) (λ x. tt) storage))

  pub page-is : IsPage storage d from most (page_of d most ahead)
  page-is = record { all = all (slice_get ahead most) refl; few = omega (arith, length-kept own (take most ahead), length-part ahead most); on = λ some. on some (slice_get ahead most) refl }
    where
      all : (o : Option FlatEntry) → slice_get ahead most ≡ o
          → filter own (take most ahead) ++ option_map_or (values_from storage d) (option_and_then (λ e. address_after d e.key) o) [] ≡ values_from storage d from
      all None e = append-nil (filter own (take most ahead)) ∙ ap (filter own) (take-past ahead most e) ∙ sym from-is
      all (Some x) e =
          let s = split ahead most x e in
          ap (λ ys. filter own (take most ahead) ++ ys) (sym (left-is x s.0 s.1 (address_after d x.key) refl))
          ∙ sym (filter-append own (take most ahead) (x ∷ s.0)) ∙ ap (filter own) (sym s.1) ∙ sym from-is

      on : 1 ≤ most → (o : Option FlatEntry) → slice_get ahead most ≡ o → IfSome (option_and_then (λ e. address_after d e.key) o) (λ next. from < next)
      on some None e = tt
      on some (Some x) e = let s = split ahead most x e in goes x (first-before x s.0 s.1 some) (address_after d x.key) refl
        where
          -- a first one stands before it
          after : (n : ℕ) (es : List FlatEntry) (x : FlatEntry) (rest : List FlatEntry) → 1 ≤ n → es ≡ take n es ++ x ∷ rest → Ascends (take n es ++ x ∷ rest)
              → AllByRecursion (λ f. is_behind (own_key d from) f ≡ true) es → key_before (own_key d from) x.key ≡ true
          after zero es x rest h p s b = absurd (omega (arith, h))
          after (suc n) [] x rest h p s b = cc
          after (suc n) (e ∷ es) x rest h p s b =
              let before : key_before e.key x.key ≡ true = below-one e.key (take n es) x rest s.0 s.1 in
              ⊎_elim
              (λ (same : same_key (own_key d from) e.key ≡ true). subst (λ (k : Key). key_before k x.key ≡ true) (sym (same_key-to (own_key d from) e.key same)) before)
              (⊎_elim
              (λ (t : key_before (own_key d from) e.key ≡ true). before-trans (own_key d from) e.key x.key t before)
              (λ (t : key_before e.key (own_key d from) ≡ true). let bad : false ≡ true = sym (ap not t) ∙ b.0 in cc))
              (keys_compare (own_key d from) e.key)

          first-before : (x : FlatEntry) (rest : List FlatEntry) → ahead ≡ take most ahead ++ x ∷ rest → 1 ≤ most → key_before (own_key d from) x.key ≡ true
          first-before x rest parted some = after most ahead x rest some parted (ascends-ahead x rest parted) (all-pass (is_behind (own_key d from)) storage)

          goes : (x : FlatEntry) → key_before (own_key d from) x.key ≡ true → (o : Option ℕ) → address_after d x.key ≡ o → IfSome o (λ next. from < next)
          goes x h None at = tt
          goes x h (Some next) at = later d x.key from next h at
