-- What a handle names, in the module that its module handle leads to.
use Rattle.mv_linker.proofs.Common.{[], ℕ, ◌++◌, ◌+◌, ◌<◌, ◌>>=◌, ◌∙◌, ◌∷◌, ◌≡◌, ◌≤◌, Abilities, AreTargets, Definition, EachAt, FunctionHandle, IsFunctionAt, IsFunctionIn, Bool}
use Rattle.mv_linker.proofs.Common.{IsOf, IsStructAt, IsStructOf, IsTarget, IsTrue, List, Module, ModuleName, None, Option, Some, StructHandle, Target}
use Rattle.mv_linker.proofs.Common.{and_from, and_parts, ap, arith, both_ways, cases_eq, declared, declared_in, false, first_so, function_is_there, function_matches, inl, inr, is_module}
use Rattle.mv_linker.proofs.Common.{length, length_push, list_all, list_any, module_is_there, module_name, module_named, module_place, modules_are_there, option_and_then, option_map_or}
use Rattle.mv_linker.proofs.Common.{refl, same_abilities, same_Some, second_so, slice_get, slice_get_past, slice_get_within, struct_is_there, struct_matches, structs_are_there, subst, suc}
use Rattle.mv_linker.proofs.Common.{sym, own_name, true, zero}
use Rattle.mv_linker.proofs.Lemmas.{all-among, among-all, among-any, among-at, at-among, found_at, past_from, place_below}
use Rattle.mv_bound_rules.proofs.NameLemmas.{module_place-is, named_in}
use Rattle.mv_bound_rules.proofs.Entries.{last_or_before}

-- the module of the name that a target has
target_named : (modules : List Module) (m : Module) (h : ℕ) (t : Target) (is : IsTarget modules m h t) → module_named modules is.name ≡ Some is.home
target_named modules m h t is = ap (option_and_then (slice_get modules)) is.place ∙ is.there

-- and what it is to the handle's module
pub target-of : (modules : List Module) (m : Module) (h : ℕ) (t : Target) (is : IsTarget modules m h t) → IsOf m h is.home is.name
target-of modules m h t is =
    let f = module_place-is modules is.name t.place is.place in
    record { named = is.named; own = ap own_name (same_Some is.home f.0 (sym is.there ∙ f.1)) ∙ f.2; defined = is.defined }

-- a name that is the place of no module
pub not_there : (modules : List Module) (name : ModuleName) → module_place modules name ≡ None → list_any (is_module name) modules ≡ false
not_there [] name e = refl
not_there (m ∷ ms) name e = let rest = not_there ms name in grind (arith, rest)

-- and one that is
pub is_there : (modules : List Module) (name : ModuleName) (k : ℕ) → module_place modules name ≡ Some k → list_any (is_module name) modules ≡ true
is_there modules name k e = let f = found_at (is_module name) modules k e in among-any (is_module name) modules f.entry (among-at modules k f.entry f.at) f.passes

-- ---- structs and functions

-- a struct of this name is among the modules with these abilities where it is in one of them with these
abbrev AreOne : List Module → Module → ModuleName → Abilities → Option (List ℕ) → Type 0
AreOne modules n home abilities o =
    option_map_or (λ name. option_map_or (same_abilities abilities) (declared modules name) false) (o >>= λ name. Some (named_in home name)) false
    ≡ option_map_or (λ name. option_map_or (same_abilities abilities) (declared_in (named_in home name) n) false) o false

module _ (modules : List Module) (m : Module) (targets : List Target) (named : AreTargets modules m targets) where
  pub struct_there_is : (h : ℕ) (handle : StructHandle) (t : Target) → slice_get m.struct_handles h ≡ Some handle → (q : slice_get targets handle.module ≡ Some t)
      → struct_is_there modules m h handle ≡ struct_matches m handle (named.each handle.module t q).home (named.each handle.module t q).name
  struct_there_is h handle t p q =
      let is = named.each handle.module t q in
      rw (p, is.named) (elim (slice_get m.identifiers handle.name) as (λ o. AreOne modules is.home is.name handle.abilities o) [
        | None ↦ refl
        | Some n ↦ rw (target_named modules m handle.module t is) refl
      ])

  pub function_there_is : (handle : FunctionHandle) (t : Target) (q : slice_get targets handle.module ≡ Some t)
      → function_is_there modules m handle ≡ function_matches m handle (named.each handle.module t q).home
  function_there_is handle t q = let is = named.each handle.module t q in rw (is.named, target_named modules m handle.module t is) refl

  pub struct_at : (h : ℕ) (handle : StructHandle) (t : Target) (i : ℕ) → slice_get m.struct_handles h ≡ Some handle → (q : slice_get targets handle.module ≡ Some t)
      → IsStructOf m handle (named.each handle.module t q).home (named.each handle.module t q).name i
      → IsStructAt modules m h (record { place = t.place; index = i })
  struct_at h handle t i p q s =
      let is = named.each handle.module t q in
      record {
        name = named_in is.name s.0;
        home = is.home;
        named = rw (p, is.named, s.1) refl;
        place = is.place;
        there = is.there;
        index = s.2;
      }

  pub function_at : (h : ℕ) (handle : FunctionHandle) (t : Target) (i : ℕ) → slice_get m.function_handles h ≡ Some handle → (q : slice_get targets handle.module ≡ Some t)
      → IsFunctionIn m handle (named.each handle.module t q).home i
      → IsFunctionAt modules m h (record { place = t.place; index = i })
  function_at h handle t i p q f =
      let is = named.each handle.module t q in
      record { handle = handle; name = is.name; home = is.home; is_handle = p; named = is.named; place = is.place; there = is.there; index = f }

  -- a place that a target has is one
  pub target_below : (h : ℕ) (t : Target) → slice_get targets h ≡ Some t → t.place < length modules
  target_below h t q = place_below (is_module (named.each h t q).name) modules t.place (named.each h t q).place

  -- a handle whose module handle is not there names nothing
  unnamed : (h : ℕ) → slice_get targets h ≡ None → module_name m h ≡ None
  unnamed h none = rw (slice_get_past m.module_handles h (past_from targets m.module_handles h (sym named.len) none)) refl

  pub struct_nowhere : (h : ℕ) (handle : StructHandle) → slice_get m.struct_handles h ≡ Some handle → slice_get targets handle.module ≡ None → IsTrue (struct_is_there modules m h handle) → ⊥
  struct_nowhere h handle p q e = both_ways true (sym (rw (p, unnamed handle.module q) at e)) refl

  pub function_nowhere : (handle : FunctionHandle) → slice_get targets handle.module ≡ None → IsTrue (function_is_there modules m handle) → ⊥
  function_nowhere handle q e = both_ways true (sym (rw (unnamed handle.module q) at e)) refl

-- ---- lists of handles, place by place

pub modules_there_at : (modules : List Module) (m : Module) (n h : ℕ) → h < n → modules_are_there modules m n ≡ true → module_is_there modules m h ≡ true
modules_there_at modules m zero h l e = absurd (omega (arith, l))
modules_there_at modules m (suc n) h l e =
    let parts = and_parts (module_is_there modules m n) (modules_are_there modules m n) e in
    elim (cases_eq h n) [ inl p ↦ rw p parts.0 | inr p ↦ modules_there_at modules m n h (omega (arith, l, p)) parts.1 ]

pub structs_there_at : (modules : List Module) (m : Module) (base : ℕ) (handles : List StructHandle) (k : ℕ) (s : StructHandle) → structs_are_there modules m base handles ≡ true
    → slice_get handles k ≡ Some s → struct_is_there modules m (base + k) s ≡ true
structs_there_at modules m base [] k s e p = absurd cc
structs_there_at modules m base (x ∷ xs) zero s e p =
    let zero_right : base + 0 ≡ base = omega arith in
    ap (λ h. struct_is_there modules m h s) zero_right ∙ ap (struct_is_there modules m base) (sym (same_Some x s p)) ∙ first_so (struct_is_there modules m base x) (structs_are_there modules m (base + 1) xs) e
structs_there_at modules m base (x ∷ xs) (suc k) s e p =
    let next : base + suc k ≡ base + 1 + k = omega arith in
    ap (λ h. struct_is_there modules m h s) next ∙ structs_there_at modules m (base + 1) xs k s (second_so (struct_is_there modules m base x) (structs_are_there modules m (base + 1) xs) e) p

pub structs_there_all : (modules : List Module) (m : Module) (base : ℕ) (handles : List StructHandle)
    → ((k : ℕ) (s : StructHandle) → slice_get handles k ≡ Some s → struct_is_there modules m (base + k) s ≡ true) → structs_are_there modules m base handles ≡ true
structs_there_all modules m base [] f = refl
structs_there_all modules m base (x ∷ xs) f =
    let zero_right : base + 0 ≡ base = omega arith in
    and_from (struct_is_there modules m base x) (structs_are_there modules m (base + 1) xs)
    (sym (ap (λ h. struct_is_there modules m h x) zero_right) ∙ f 0 x refl)
    (structs_there_all modules m (base + 1) xs (λ k s p. let next : base + suc k ≡ base + 1 + k = omega arith in sym (ap (λ h. struct_is_there modules m h s) next) ∙ f (suc k) s p))

-- one more element
pub each_push : {A : Type 0} (P : ℕ → A → Type 0) (xs : List A) (x : A) → EachAt P xs → P (length xs) x → (k : ℕ) (y : A) → slice_get (xs ++ x ∷ []) k ≡ Some y → P k y
each_push P xs x all last k y e = elim (last_or_before xs x k y e) [ inl before ↦ all k y before | inr end ↦ rw (end.0, ← end.1) last ]

-- a handle whose module has no place
pub nowhere : (modules : List Module) (m : Module) (h : ℕ) (name : ModuleName) → Some name ≡ module_name m h → None ≡ module_place modules name → IsTrue (module_is_there modules m h) → ⊥
nowhere modules m h name named none e =
    let yes : list_any (is_module name) modules ≡ true = ap (λ o. option_map_or (λ name. list_any (is_module name) modules) o false) named ∙ e in
    let no : list_any (is_module name) modules ≡ false = not_there modules name (sym none) in
    cc

-- ---- what was found of the first handles

pub record TargetsSoFar (modules : List Module) (m : Module) (targets : List Target) (h : ℕ) : Type 0 where
  pub len : length targets ≡ h
  pub each : (k : ℕ) (t : Target) → slice_get targets k ≡ Some t → IsTarget modules m k t
  pub there : modules_are_there modules m h ≡ true

nothing_at : {A : Type 0} (xs : List A) (k : ℕ) (x : A) → xs ≡ [] → slice_get xs k ≡ Some x → ⊥
nothing_at xs k x e p = let q : slice_get [] k ≡ Some x = sym (ap (λ l. slice_get l k) e) ∙ p in cc

pub no-targets : (modules : List Module) (m : Module) (targets : List Target) → targets ≡ [] → TargetsSoFar modules m targets 0
no-targets modules m targets e = record { len = ap length e; each = λ k t p. absurd (nothing_at targets k t e p); there = refl }

pub more-targets : (modules : List Module) (m : Module) (targets more : List Target) (h : ℕ) (t : Target) → TargetsSoFar modules m targets h → more ≡ targets ++ t ∷ [] → IsTarget modules m h t
    → TargetsSoFar modules m more (h + 1)
more-targets modules m targets more h t s e is =
    let next : h + 1 ≡ suc h = omega arith in
    let there : module_is_there modules m h ≡ true =
    ap (λ o. option_map_or (λ name. list_any (is_module name) modules) o false) is.named ∙ is_there modules is.name t.place is.place in
    record {
      len = ap length e ∙ length_push targets t ∙ ap (λ n. n + 1) s.len;
      each = λ k x p. each_push (IsTarget modules m) targets t s.each (subst (λ n. IsTarget modules m n t) (sym s.len) is) k x (sym (ap (λ l. slice_get l k) e) ∙ p);
      there = subst (λ n. modules_are_there modules m n ≡ true) (sym next) (and_from (module_is_there modules m h) (modules_are_there modules m h) there s.there);
    }

-- where what the first handles name is defined, structs or functions, and that it is there
pub record FoundSoFar {H : Type 0} (handles : List H) (IsAt : ℕ → Definition → Type 0) (is_there : ℕ → H → Bool) (ds : List Definition) (h : ℕ) : Type 0 where
  pub len : length ds ≡ h
  pub each : EachAt IsAt ds
  pub there : (k : ℕ) (x : H) → k < h → slice_get handles k ≡ Some x → is_there k x ≡ true

abbrev pub StructsSoFar : List Module → Module → List Definition → ℕ → Type 0
StructsSoFar modules m = FoundSoFar m.struct_handles (IsStructAt modules m) (struct_is_there modules m)

abbrev pub FunctionsSoFar : List Module → Module → List Definition → ℕ → Type 0
FunctionsSoFar modules m = FoundSoFar m.function_handles (IsFunctionAt modules m) (λ h. function_is_there modules m)

module _ {H : Type 0} (handles : List H) (IsAt : ℕ → Definition → Type 0) (is_there : ℕ → H → Bool) where
  pub none-found : (ds : List Definition) → ds ≡ [] → FoundSoFar handles IsAt is_there ds 0
  none-found ds e = record { len = ap length e; each = λ k d p. absurd (nothing_at ds k d e p); there = λ k x l p. absurd (omega (arith, l)) }

  pub one-found-more : (ds more : List Definition) (h : ℕ) (handle : H) (d : Definition) → FoundSoFar handles IsAt is_there ds h → more ≡ ds ++ d ∷ []
      → slice_get handles h ≡ Some handle → IsAt h d → is_there h handle ≡ true → FoundSoFar handles IsAt is_there more (h + 1)
  one-found-more ds more h handle d s e at is there = record {
    len = ap length e ∙ length_push ds d ∙ ap (λ n. n + 1) s.len;
    each = λ k x p. each_push IsAt ds d s.each (subst (λ n. IsAt n d) (sym s.len) is) k x (sym (ap (λ l. slice_get l k) e) ∙ p);
    there = λ k x l p. elim (cases_eq k h) [
      | inl q ↦ (let same : x ≡ handle = same_Some x handle (sym p ∙ ap (slice_get handles) q ∙ at) in rw (q, same) there)
      | inr q ↦ s.there k x (omega (arith, l, q)) p
    ];
  }

pub all-structs : (modules : List Module) (m : Module) (ds : List Definition) (h : ℕ) → StructsSoFar modules m ds h → length m.struct_handles ≤ h
    → structs_are_there modules m 0 m.struct_handles ≡ true
all-structs modules m ds h s most = structs_there_all modules m 0 m.struct_handles (λ k x p.
    let zero_left : 0 + k ≡ k = omega arith in
    let low = slice_get_within m.struct_handles k x p in
    ap (λ n. struct_is_there modules m n x) zero_left ∙ s.there k x (omega (arith, low, most)) p)

pub struct-of-all : (modules : List Module) (m : Module) (h : ℕ) (handle : StructHandle) → slice_get m.struct_handles h ≡ Some handle → structs_are_there modules m 0 m.struct_handles ≡ true
    → struct_is_there modules m h handle ≡ true
struct-of-all modules m h handle p e =
    let zero_left : 0 + h ≡ h = omega arith in
    sym (ap (λ n. struct_is_there modules m n handle) zero_left) ∙ structs_there_at modules m 0 m.struct_handles h handle e p

pub all-functions : (modules : List Module) (m : Module) (ds : List Definition) (h : ℕ) → FunctionsSoFar modules m ds h → length m.function_handles ≤ h
    → list_all (function_is_there modules m) m.function_handles ≡ true
all-functions modules m ds h s most = among-all (function_is_there modules m) m.function_handles (λ x a.
    let at = at-among m.function_handles x a in
    let low = slice_get_within m.function_handles at.0 x at.1 in
    s.there at.0 x (omega (arith, low, most)) at.1)

pub function-of-all : (modules : List Module) (m : Module) (h : ℕ) (handle : FunctionHandle) → slice_get m.function_handles h ≡ Some handle
    → list_all (function_is_there modules m) m.function_handles ≡ true → function_is_there modules m handle ≡ true
function-of-all modules m h handle p e = all-among (function_is_there modules m) m.function_handles handle e (among-at m.function_handles h handle p)
