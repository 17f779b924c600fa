-- Modules among others: by name, and once a bundle joins.
use Rattle.mv_linker.proofs.Common.{[], ℕ, ◌||◌, ◌∙◌, ◌∷◌, ◌≡◌, ◌⊎◌, Bool, List, Module, ModuleName, Some, all_differ, and_from, ap, are_compatible, arith, cases_Bool, cond, false}
use Rattle.mv_linker.proofs.Common.{false_from_ne_true, first_so, have_one_name, inl, inr, is_module, list_all, list_any, may_replace, module_named, not, not-true, or_cases, or_right}
use Rattle.mv_linker.proofs.Common.{own_name, refl, same_Some, second_so, slice_get, subst, suc, sym, true, with_table, with_tables, zero}
use Rattle.mv_bound_rules.proofs.NameLemmas.{have_one-is, have_one_name-from, have_one_name-is, is_module-from, is_module-is}

-- an element of a list
abbrev pub Among : {A : Type 0} → List A → A → Type 0
Among [] x = ⊥
Among (y ∷ ys) x = (x ≡ y) ⊎ Among ys x

pub all-among : {A : Type 0} (p : A → Bool) (xs : List A) (x : A) → list_all p xs ≡ true → Among xs x → p x ≡ true
all-among p [] x h a = absurd a
all-among p (y ∷ ys) x h (inl e) = ap p e ∙ first_so (p y) (list_all p ys) h
all-among p (y ∷ ys) x h (inr a) = all-among p ys x (second_so (p y) (list_all p ys) h) a

pub among-all : {A : Type 0} (p : A → Bool) (xs : List A) → ((x : A) → Among xs x → p x ≡ true) → list_all p xs ≡ true
among-all p [] h = refl
among-all p (y ∷ ys) h = and_from (p y) (list_all p ys) (h y (inl refl)) (among-all p ys (λ x a. h x (inr a)))

pub among-at : {A : Type 0} (xs : List A) (k : ℕ) (x : A) → slice_get xs k ≡ Some x → Among xs x
among-at [] k x e = absurd cc
among-at (y ∷ ys) zero x e = inl (same_Some x y (sym e))
among-at (y ∷ ys) (suc k) x e = inr (among-at ys k x e)

pub at-among : {A : Type 0} (xs : List A) (x : A) → Among xs x → (k : ℕ) × (slice_get xs k ≡ Some x)
at-among [] x a = absurd a
at-among (y ∷ ys) x (inl e) = (0, ap Some (sym e))
at-among (y ∷ ys) x (inr a) = let r = at-among ys x a in (suc r.0, r.1)

-- an element that passes a test, if some does
pub any-among : {A : Type 0} (p : A → Bool) (xs : List A) → list_any p xs ≡ true → (x : A) × Among xs x × (p x ≡ true)
any-among p [] h = absurd cc
any-among p (y ∷ ys) h =
    elim (or_cases (p y) (list_any p ys) h) [ inl e ↦ (y, inl refl, e) | inr e ↦ (let r = any-among p ys e in (r.0, inr r.1, r.2)) ]

pub among-any : {A : Type 0} (p : A → Bool) (xs : List A) (x : A) → Among xs x → p x ≡ true → list_any p xs ≡ true
among-any p [] x a h = absurd a
among-any p (y ∷ ys) x (inl e) h = ap (λ b. b || list_any p ys) (ap p (sym e) ∙ h)
among-any p (y ∷ ys) x (inr a) h = or_right (p y) (list_any p ys) (among-any p ys x a h)

-- no element passes a test that none passes
pub none-among : {A : Type 0} (p : A → Bool) (xs : List A) (x : A) → list_any p xs ≡ false → Among xs x → p x ≡ false
none-among p xs x h a = false_from_ne_true (p x) (λ e. let some : list_any p xs ≡ true = among-any p xs x a e in cc)

-- ---- names

pub turned : (a b : Module) → have_one_name a b ≡ false → have_one_name b a ≡ false
turned a b h = false_from_ne_true (have_one_name b a) (λ e. let o = have_one_name-is b a e in let one : have_one_name a b ≡ true = have_one_name-from a b o.0 o.2 o.1 in cc)

-- modules with the name of one that differs from another differ from it too
carried : (m n x : Module) → have_one_name n m ≡ true → have_one_name m x ≡ false → have_one_name n x ≡ false
carried m n x h k = false_from_ne_true (have_one_name n x) (λ e.
    let o = have_one_name-is n m h in
    let q = have_one_name-is n x e in
    let one : have_one_name m x ≡ true = have_one_name-from m x o.0 o.2 cc in
    cc)

-- what all_differ says of the first
pub first_differs : (m : Module) (ms : List Module) → all_differ have_one_name (m ∷ ms) ≡ true → (x : Module) → Among ms x → have_one_name m x ≡ false
first_differs m ms h x a = none-among (have_one_name m) ms x (not-true (list_any (have_one_name m) ms) (first_so (not (list_any (have_one_name m) ms)) (all_differ have_one_name ms) h)) a

pub rest_differ : (m : Module) (ms : List Module) → all_differ have_one_name (m ∷ ms) ≡ true → all_differ have_one_name ms ≡ true
rest_differ m ms h = second_so (not (list_any (have_one_name m) ms)) (all_differ have_one_name ms) h

-- and from where
so_differs : (m : Module) (ms : List Module) → ((x : Module) → Among ms x → have_one_name m x ≡ false) → all_differ have_one_name ms ≡ true → all_differ have_one_name (m ∷ ms) ≡ true
so_differs m ms h rest =
    let none = false_from_ne_true (list_any (have_one_name m) ms) (λ e. let r = any-among (have_one_name m) ms e in let no : have_one_name m r.0 ≡ false = h r.0 r.1 in let yes : have_one_name m r.0 ≡ true = r.2 in cc) in
    and_from (not (list_any (have_one_name m) ms)) (all_differ have_one_name ms) (ap not none) rest

-- modules of one name are one
pub unique : (ms : List Module) (x y : Module) (k : ModuleName) → all_differ have_one_name ms ≡ true → Among ms x → Among ms y → own_name x ≡ Some k → own_name y ≡ Some k → x ≡ y
unique [] x y k h a b p q = absurd a
unique (m ∷ ms) x y k h (inl e) (inl f) p q = e ∙ sym f
unique (m ∷ ms) x y k h (inl e) (inr b) p q =
    let no : have_one_name m y ≡ false = first_differs m ms h y b in
    let yes : have_one_name m y ≡ true = have_one_name-from m y k (sym (ap own_name e) ∙ p) q in
    absurd cc
unique (m ∷ ms) x y k h (inr a) (inl f) p q =
    let no : have_one_name m x ≡ false = first_differs m ms h x a in
    let yes : have_one_name m x ≡ true = have_one_name-from m x k (sym (ap own_name f) ∙ q) p in
    absurd cc
unique (m ∷ ms) x y k h (inr a) (inr b) p q = unique ms x y k (rest_differ m ms h) a b p q

named_step : (m : Module) (ms : List Module) (k : ModuleName) → module_named (m ∷ ms) k ≡ cond (is_module k m) (Some m) (module_named ms k)
named_step m ms k = grind arith

-- the module of a name is there, and has it
pub named-so : (ms : List Module) (k : ModuleName) (x : Module) → module_named ms k ≡ Some x → Among ms x × (own_name x ≡ Some k)
named-so [] k x e = absurd cc
named-so (m ∷ ms) k x e = elim (cases_Bool (is_module k m)) [
  | inl p ↦ (let same : x ≡ m = grind arith in (inl same, ap own_name same ∙ is_module-is k m p))
  | inr p ↦ (let r = named-so ms k x (grind arith) in (inr r.0, r.1))
]

pub so-named : (ms : List Module) (k : ModuleName) (x : Module) → all_differ have_one_name ms ≡ true → Among ms x → own_name x ≡ Some k → module_named ms k ≡ Some x
so-named [] k x h a p = absurd a
so-named (m ∷ ms) k x h (inl e) p = named_step m ms k ∙ rw (is_module-from k m (sym (ap own_name e) ∙ p)) (ap Some (sym e))
so-named (m ∷ ms) k x h (inr a) p = named_step m ms k ∙ elim (cases_Bool (is_module k m)) [
  | inl q ↦ rw q (ap Some (unique (m ∷ ms) m x k h (inl refl) (inr a) (is_module-is k m q) p))
  | inr q ↦ rw q (so-named ms k x (rest_differ m ms h) a p)
]

-- ---- with one more module

added-there : (ms : List Module) (n : Module) → Among (with_table ms n) n
added-there [] n = inl refl
added-there (m ∷ ms) n = elim (have_one_name n m) as (λ b. Among (cond b (n ∷ ms) (m ∷ with_table ms n)) n) [ true ↦ inl refl | false ↦ inr (added-there ms n) ]

stays-there : (ms : List Module) (n x : Module) → Among ms x → have_one_name n x ≡ false → Among (with_table ms n) x
stays-there [] n x a h = absurd a
stays-there (m ∷ ms) n x (inl e) h = rw (ap (have_one_name n) (sym e) ∙ h) (inl e)
stays-there (m ∷ ms) n x (inr a) h =
    elim (have_one_name n m) as (λ b. Among (cond b (n ∷ ms) (m ∷ with_table ms n)) x) [ true ↦ inr a | false ↦ inr (stays-there ms n x a h) ]

among-added : (ms : List Module) (n x : Module) → all_differ have_one_name ms ≡ true → Among (with_table ms n) x → (x ≡ n) ⊎ (Among ms x × (have_one_name n x ≡ false))
among-added [] n x h (inl e) = inl e
among-added [] n x h (inr a) = absurd a
among-added (m ∷ ms) n x h a = step (have_one_name n m) refl a (λ b. among-added ms n x (rest_differ m ms h) b)
  where
    step : (b : Bool) → have_one_name n m ≡ b → Among (cond b (n ∷ ms) (m ∷ with_table ms n)) x → (Among (with_table ms n) x → (x ≡ n) ⊎ (Among ms x × (have_one_name n x ≡ false)))
        → (x ≡ n) ⊎ (Among (m ∷ ms) x × (have_one_name n x ≡ false))
    step true p (inl e) ih = inl e
    step true p (inr a) ih = inr (inr a, carried m n x p (first_differs m ms h x a))
    step false p (inl e) ih = inr (inl e, ap (have_one_name n) e ∙ p)
    step false p (inr a) ih = elim (ih a) [ inl e ↦ inl e | inr r ↦ inr (inr r.0, r.1) ]

pub differ-added : (ms : List Module) (n : Module) → all_differ have_one_name ms ≡ true → all_differ have_one_name (with_table ms n) ≡ true
differ-added [] n h = refl
differ-added (m ∷ ms) n h = elim (cases_Bool (have_one_name n m)) [
  | inl p ↦ rw p (so_differs n ms (λ x a. carried m n x p (first_differs m ms h x a)) (rest_differ m ms h))
  | inr p ↦ rw p (so_differs m (with_table ms n) (λ x a. elim (among-added ms n x (rest_differ m ms h) a) [
    | inl e ↦ ap (have_one_name m) e ∙ turned n m p
    | inr r ↦ first_differs m ms h x r.0
  ]) (differ-added ms n (rest_differ m ms h)))
]

-- ---- with a bundle

pub differ-result : (ms ns : List Module) → all_differ have_one_name ms ≡ true → all_differ have_one_name (with_tables ms ns) ≡ true
differ-result ms [] h = h
differ-result ms (n ∷ ns) h = differ-result (with_table ms n) ns (differ-added ms n h)

-- a module stays whose name none of the bundle has
pub stays-all : (ms ns : List Module) (x : Module) → Among ms x → ((n : Module) → Among ns n → have_one_name n x ≡ false) → Among (with_tables ms ns) x
stays-all ms [] x a h = a
stays-all ms (n ∷ ns) x a h = stays-all (with_table ms n) ns x (stays-there ms n x a (h n (inl refl))) (λ k b. h k (inr b))

-- the bundle's modules are there
pub bundle-there : (ms ns : List Module) (x : Module) → all_differ have_one_name ns ≡ true → Among ns x → Among (with_tables ms ns) x
bundle-there ms [] x h a = absurd a
bundle-there ms (n ∷ ns) x h (inl e) =
    subst (Among (with_tables (with_table ms n) ns)) (sym e) (stays-all (with_table ms n) ns n (added-there ms n) (λ k b. turned n k (first_differs n ns h k b)))
bundle-there ms (n ∷ ns) x h (inr a) = bundle-there (with_table ms n) ns x (rest_differ n ns h) a

-- each module there is of the bundle, or an old one that none of the bundle replaces
pub among-result : (ms ns : List Module) (x : Module) → all_differ have_one_name ms ≡ true → Among (with_tables ms ns) x
    → Among ns x ⊎ (Among ms x × ((n : Module) → Among ns n → have_one_name n x ≡ false))
among-result ms [] x h a = inr (a, λ n b. absurd b)
among-result ms (n ∷ ns) x h a = elim (among-result (with_table ms n) ns x (differ-added ms n h) a) [
  | inl b ↦ inl (inr b)
  | inr r ↦ elim (among-added ms n x h r.0) [
    | inl e ↦ inl (inl e)
    | inr old ↦ inr (old.0, λ k c. elim c [ inl e ↦ ap (λ z. have_one_name z x) e ∙ old.1 | inr later ↦ r.1 k later ])
  ]
]

-- the module of an old name: itself, or one of the bundle that may replace it
pub follower : (old ns : List Module) → all_differ have_one_name old ≡ true → all_differ have_one_name ns ≡ true → are_compatible old ns ≡ true
    → (k : ModuleName) (m : Module) → module_named old k ≡ Some m → (n : Module) × (module_named (with_tables old ns) k ≡ Some n) × ((n ≡ m) ⊎ (Among ns n × (may_replace m n ≡ true)))
follower old ns once apart fits k m e =
    let at = named-so old k m e in
    elim (cases_Bool (list_any (is_module k) ns)) [
      | inl h ↦
          let r = any-among (is_module k) ns h in
          let own : own_name r.0 ≡ Some k = is_module-is k r.0 r.2 in
          let both = all-among (λ n. not (have_one_name m n) || may_replace m n) ns r.0 (all-among (λ m. list_all (λ n. not (have_one_name m n) || may_replace m n) ns) old m fits at.0) r.1 in
          let replaces = sym (ap (λ b. not b || may_replace m r.0) (have_one_name-from m r.0 k at.1 own)) ∙ both in
          (r.0, so-named (with_tables old ns) k r.0 (differ-result old ns once) (bundle-there old ns r.0 apart r.1) own, inr (r.1, replaces))
      | inr h ↦
          let stays : Among (with_tables old ns) m = stays-all old ns m at.0 (λ n a. turned m n (have_one-is m n k at.1 ∙ none-among (is_module k) ns n h a)) in
          (m, so-named (with_tables old ns) k m (differ-result old ns once) stays at.1, inl refl)
    ]
