-- A module's name, and its struct definitions: they are its own, and their names stand for them.
--   defined_own, defined_alone      definitions by their handles: of the own module, one each
--   own_name-some                   a module whose indices are in bounds has a name
--   one_module_handle, one_struct_handle   a module or a struct has one handle
--   owns-structs                    a module owns the structs that it defines
--   definition_place, own-definition   a definition is the one that its name stands for
--   struct-at, function-at          the definition that has a name is the first one with it
use Rattle.mv_interface.proofs.Common.{[], ℕ, ◌&&◌, ◌+◌, ◌<◌, ◌==◌, ◌∙◌, ◌∷◌, ◌≡◌, ◌≤◌, Bool, FunctionDefinition, FunctionHandle, InBounds, List, Module, ModuleHandle, ModuleName, None}
use Rattle.mv_interface.proofs.Common.{Option, Some, StructDefinition, StructHandle, StructName, WellDefined, all_differ, and_from, and_parts, ap, arith, below, bytes_eq}
use Rattle.mv_interface.proofs.Common.{bytes_eq-Decides, cases_Bool, cases_cond, cases_eq, cases_order, cond, count_by, defined_once, definition_of, eq-eqb, eqb-true, false, field_in}
use Rattle.mv_interface.proofs.Common.{find_index, first_so, function_home, function_place, have_one_name, inl, inr, is_struct, length, list_all, map, module_handle_in, module_name}
use Rattle.mv_interface.proofs.Common.{module_named, name_of_function, name_of_struct, nat_tests, none-some, on_bind, option_and_then, option_map, option_map_or, own_name, refl, same_struct}
use Rattle.mv_interface.proofs.Common.{second_so, slice_get, slice_get-map, slice_get_within, struct_handle_in, struct_home, struct_in, struct_name, suc, sym, true, zero}
use Rattle.std.proofs.lemmas.List.Recursion.{is_count_by}
use Rattle.mv_bound_rules.proofs.Found.{find_first, one_place, passing}
use Rattle.mv_bound_rules.proofs.NameLemmas.{module_parts, module_place-from, same_struct-is, same_struct-same, struct_parts, named_in}
use Rattle.mv_bound_rules.proofs.Entries.{all_at, there_below}

bytes-same : (xs : List ℕ) → bytes_eq xs xs ≡ true
bytes-same xs = (bytes_eq-Decides xs xs).1 refl

-- how many are this number
number_of : ℕ → List ℕ → ℕ
number_of h [] = 0
number_of h (x ∷ xs) = cond (x == h) (1 + number_of h xs) (number_of h xs)

number_is : (h : ℕ) (xs : List ℕ) → number_of h xs ≡ count_by (λ d. d == h) xs
unfolding number_of
number_is h xs = is_count_by (number_of h) (λ d. d == h) refl (λ x xs. refl) xs

number_at : (h : ℕ) (xs : List ℕ) (k : ℕ) → slice_get xs k ≡ Some h → 1 ≤ number_of h xs
unfolding number_of
number_at h [] k e = absurd (none-some h e)
number_at h (x ∷ xs) zero e = grind (arith, nat_tests)
number_at h (x ∷ xs) (suc k) e = let l = number_at h xs k e in grind (arith, nat_tests, l)

number_twice : (h : ℕ) (xs : List ℕ) (j k : ℕ) → j < k → slice_get xs j ≡ Some h → slice_get xs k ≡ Some h → 2 ≤ number_of h xs
unfolding number_of
number_twice h [] j k l e g = absurd (none-some h e)
number_twice h (x ∷ xs) j zero l e g = absurd (omega (arith, l))
number_twice h (x ∷ xs) zero (suc k) l e g = let one = number_at h xs k g in grind (arith, nat_tests, one)
number_twice h (x ∷ xs) (suc j) (suc k) l e g = let two = number_twice h xs j k (omega (arith, l)) e g in grind (arith, nat_tests, two)

-- what the definitions of the own handles are
defined_at : (home : ℕ → ℕ) (own n h : ℕ) (defined : List ℕ) → defined_once home own n defined ≡ true → h < n → number_of h defined ≡ cond (home h == own) 1 0
defined_at home own zero h defined e l = absurd (omega (arith, l))
defined_at home own (suc n) h defined e l =
    let parts = and_parts (count_by (λ d. d == n) defined == cond (home n == own) 1 0) (defined_once home own n defined) e in
    elim (cases_eq h n) [
      | inl same ↦ rw same (number_is n defined ∙ eqb-true _ _ parts.0)
      | inr far ↦ defined_at home own n h defined parts.1 (omega (arith, l, far))
    ]

-- a definition is of the own module
pub defined_own : (home : ℕ → ℕ) (own n h k : ℕ) (defined : List ℕ) → defined_once home own n defined ≡ true → h < n → slice_get defined k ≡ Some h → home h ≡ own
defined_own home own n h k defined e l g = elim (cases_Bool (home h == own)) [
  | inl p ↦ eqb-true (home h) own p
  | inr p ↦ absurd (omega (arith, defined_at home own n h defined e l ∙ ap (λ (b : Bool). cond b 1 0) p, number_at h defined k g))
]

-- and the only one of its handle
pub defined_alone : (home : ℕ → ℕ) (own n h j k : ℕ) (defined : List ℕ) → defined_once home own n defined ≡ true → h < n → slice_get defined j ≡ Some h → slice_get defined k ≡ Some h → j ≡ k
defined_alone home own n h j k defined e l p q =
    let most : number_of h defined ≤ 1 = elim (cases_cond (home h == own) 1 0 _ (defined_at home own n h defined e l)) [ inl e ↦ omega (arith, e) | inr e ↦ omega (arith, e) ] in
    elim (cases_order j k) [
      | inl s ↦ s
      | inr (inl s) ↦ absurd (omega (arith, most, number_twice h defined j k s p q))
      | inr (inr s) ↦ absurd (omega (arith, most, number_twice h defined k j s q p))
    ]

module _ (m : Module) (bounds : InBounds m) where
  pub module_there : (h : ℕ) → below h m.module_handles ≡ true → (name : ModuleName) × (module_name m h ≡ Some name)
  module_there h e =
      let handle = there_below m.module_handles h e in
      let fine = all_at (module_handle_in m) m.module_handles h handle.0 bounds.module_handles handle.1 in
      let address = there_below m.addresses handle.0.address (first_so (below handle.0.address m.addresses) (below handle.0.name m.identifiers) fine) in
      let name = there_below m.identifiers handle.0.name (second_so (below handle.0.address m.addresses) (below handle.0.name m.identifiers) fine) in
      (record { address = address.0; name = name.0 }, rw (handle.1, address.1, name.1) refl)

  pub struct_name_by : (h : ℕ) (handle : StructHandle) (home : ModuleName) (name : List ℕ) → slice_get m.struct_handles h ≡ Some handle → module_name m handle.module ≡ Some home
      → slice_get m.identifiers handle.name ≡ Some name → struct_name m h ≡ Some (named_in home name)
  struct_name_by h handle home name p q r = rw (p, q, r) refl

-- a module whose indices are in bounds has a name
pub own_name-some : (m : Module) → InBounds m → (name : ModuleName) × (own_name m ≡ Some name)
own_name-some m bounds = module_there m bounds m.own bounds.own

pub own_name-not_none : (m : Module) → InBounds m → own_name m ≡ None → ⊥
own_name-not_none m bounds none = let some = own_name-some m bounds in none-some some.0 (sym none ∙ some.1)

module _ (m : Module) (defined : WellDefined m) where
  -- a module has one handle
  pub one_module_handle : (a b : ℕ) (name : ModuleName) → module_name m a ≡ Some name → module_name m b ≡ Some name → a ≡ b
  one_module_handle a b name e g = module_parts m a name e (λ x x_is p_is n_is. module_parts m b name g (λ y y_is q_is o_is.
      let address_at = one_place ◌==◌ m.addresses x.address y.address name.address name.address defined.addresses p_is q_is (eq-eqb name.address name.address refl) (eq-eqb name.address name.address refl) in
      let name_at = one_place bytes_eq m.identifiers x.name y.name name.name name.name defined.identifiers n_is o_is (bytes-same name.name) (bytes-same name.name) in
      one_place (λ (a b : ModuleHandle). (a.address == b.address) && (a.name == b.name)) m.module_handles a b x y defined.module_handles x_is y_is
      (and_from _ _ (eq-eqb _ _ address_at) (eq-eqb _ _ name_at)) (and_from _ _ (eq-eqb _ _ (sym address_at)) (eq-eqb _ _ (sym name_at)))))

  -- a struct has one handle
  pub one_struct_handle : (a b : ℕ) (name : StructName) → struct_name m a ≡ Some name → struct_name m b ≡ Some name → a ≡ b
  one_struct_handle a b name e g = struct_parts m a name e (λ x x_is p_is n_is. struct_parts m b name g (λ y y_is q_is o_is.
      let home_at = one_module_handle x.module y.module name.home p_is q_is in
      let name_at = one_place bytes_eq m.identifiers x.name y.name name.name name.name defined.identifiers n_is o_is (bytes-same name.name) (bytes-same name.name) in
      one_place (λ (a b : StructHandle). (a.module == b.module) && (a.name == b.name)) m.struct_handles a b x y defined.struct_handles x_is y_is
      (and_from _ _ (eq-eqb _ _ home_at) (eq-eqb _ _ name_at)) (and_from _ _ (eq-eqb _ _ (sym home_at)) (eq-eqb _ _ (sym name_at)))))

abbrev pub handle_of : StructDefinition → ℕ
handle_of d = d.handle

-- a definition's handle is of the own module
pub own_handle : (m : Module) → WellDefined m → (i : ℕ) (d : StructDefinition) (handle : StructHandle) → slice_get m.structs i ≡ Some d → slice_get m.struct_handles d.handle ≡ Some handle
    → handle.module ≡ m.own
own_handle m defined i d handle at e =
    let listed : slice_get (map handle_of m.structs) i ≡ Some d.handle = slice_get-map handle_of m.structs i ∙ ap (option_map handle_of) at in
    let of_own : struct_home m d.handle ≡ m.own =
    defined_own (struct_home m) m.own (length m.struct_handles) d.handle i (map handle_of m.structs) defined.structs (slice_get_within m.struct_handles d.handle handle e) listed in
    sym (ap (λ (x : Option StructHandle). option_map_or (λ (s : StructHandle). s.module) x 0) e) ∙ of_own

-- the structs that a module defines are its own
abbrev pub OwnsStructs : Module → Type 0
OwnsStructs m = (i : ℕ) (d : StructDefinition) (name : StructName) → slice_get m.structs i ≡ Some d → name_of_struct m d ≡ Some name → own_name m ≡ Some name.home

-- a module owns the structs that it defines
pub owns-structs : (m : Module) → WellDefined m → OwnsStructs m
owns-structs m defined i d name at named =
    struct_parts m d.handle name named (λ handle is home_is name_is. ap (module_name m) (sym (own_handle m defined i d handle at is)) ∙ home_is)

-- a name that passes the test is the name
pub struct_named_so : (found : Option StructName) (name : StructName) → option_map_or (λ own. same_struct own name) found false ≡ true → found ≡ Some name
struct_named_so found name e = let s = passing (λ own. same_struct own name) found e in s.1 ∙ ap Some (same_struct-is s.0 name s.2)

-- the first definition with a name is the one of its handle
pub definition_place : (m : Module) (defined : WellDefined m) (name : StructName) (i : ℕ) (d : StructDefinition) → slice_get m.structs i ≡ Some d → struct_name m d.handle ≡ Some name
    → d.handle < length m.struct_handles → find_index (is_struct m name) m.structs ≡ Some i
definition_place m defined name i d d_at named small =
    let listed : slice_get (map handle_of m.structs) i ≡ Some d.handle = slice_get-map handle_of m.structs i ∙ ap (option_map handle_of) d_at in
    find_first (is_struct m name) m.structs i d d_at (ap (λ (x : Option StructName). option_map_or (λ own. same_struct own name) x false) named ∙ same_struct-same name)
    (λ j e l e_at passes.
    let e_named : struct_name m e.handle ≡ Some name = struct_named_so (name_of_struct m e) name passes in
    let handles : e.handle ≡ d.handle = one_struct_handle m defined e.handle d.handle name e_named named in
    let e_listed : slice_get (map handle_of m.structs) j ≡ Some d.handle = slice_get-map handle_of m.structs j ∙ ap (option_map handle_of) e_at ∙ ap (λ x. Some x) handles in
    let same : j ≡ i = defined_alone (struct_home m) m.own (length m.struct_handles) d.handle j i (map handle_of m.structs) defined.structs small e_listed listed in
    omega (arith, l, same))

-- the name of a definition of a module among others stands for it
pub own-definition : (modules : List Module) (place : ℕ) (m : Module) → all_differ have_one_name modules ≡ true → slice_get modules place ≡ Some m → InBounds m → WellDefined m → (i : ℕ)
    (d : StructDefinition) → slice_get m.structs i ≡ Some d
    → (name : StructName) × (name_of_struct m d ≡ Some name) × (definition_of modules name ≡ Some (m, d.fields)) × (find_index (is_struct m name) m.structs ≡ Some i)
own-definition modules place m once home_at bounds defined i d d_at =
    let fine = all_at (struct_in m) m.structs i d bounds.structs d_at in
    let handle = there_below m.struct_handles d.handle (first_so (below d.handle m.struct_handles) (list_all (field_in m) d.fields) fine) in
    let small : d.handle < length m.struct_handles = slice_get_within m.struct_handles d.handle handle.0 handle.1 in
    let own = module_there m bounds m.own bounds.own in
    let fine_handle = all_at (struct_handle_in m) m.struct_handles d.handle handle.0 bounds.struct_handles handle.1 in
    let identifier = there_below m.identifiers handle.0.name (second_so (below handle.0.module m.module_handles) (below handle.0.name m.identifiers) fine_handle) in
    let name : StructName = named_in own.0 identifier.0 in
    let home_named : module_name m handle.0.module ≡ Some own.0 = ap (module_name m) (own_handle m defined i d handle.0 d_at handle.1) ∙ own.1 in
    let named : struct_name m d.handle ≡ Some name = struct_name_by m bounds d.handle handle.0 own.0 identifier.0 handle.1 home_named identifier.1 in
    let module_is : module_named modules own.0 ≡ Some m = ap (option_and_then (slice_get modules)) (module_place-from modules own.0 place m once home_at own.1) ∙ home_at in
    let index : find_index (is_struct m name) m.structs ≡ Some i = definition_place m defined name i d d_at named small in
    (name, named, rw (module_is, index, d_at) refl, index)

abbrev pub function_handle_of : FunctionDefinition → ℕ
function_handle_of d = d.handle

-- a function definition's handle is of the own module
own_function : (m : Module) → WellDefined m → (i : ℕ) (d : FunctionDefinition) (handle : FunctionHandle) → slice_get m.functions i ≡ Some d → slice_get m.function_handles d.handle ≡ Some handle
    → handle.module ≡ m.own
own_function m defined i d handle at e =
    let listed : slice_get (map function_handle_of m.functions) i ≡ Some d.handle = slice_get-map function_handle_of m.functions i ∙ ap (option_map function_handle_of) at in
    let of_own : function_home m d.handle ≡ m.own =
    defined_own (function_home m) m.own (length m.function_handles) d.handle i (map function_handle_of m.functions) defined.functions (slice_get_within m.function_handles d.handle handle e) listed in
    sym (ap (λ (x : Option FunctionHandle). option_map_or (λ (f : FunctionHandle). f.module) x 0) e) ∙ of_own

-- two function definitions of one identifier are one
one_function : (m : Module) → WellDefined m → (i j : ℕ) (d e : FunctionDefinition) (name : List ℕ) → slice_get m.functions i ≡ Some d → slice_get m.functions j ≡ Some e
    → name_of_function m d ≡ Some name → name_of_function m e ≡ Some name → j ≡ i
one_function m defined i j d e name d_at e_at d_named e_named =
    on_bind (slice_get m.function_handles d.handle) _ name d_named (λ x x_is x_named. on_bind (slice_get m.function_handles e.handle) _ name e_named (λ y y_is y_named.
    let names : y.name ≡ x.name = one_place bytes_eq m.identifiers y.name x.name name name defined.identifiers y_named x_named (bytes-same name) (bytes-same name) in
    let homes : y.module ≡ x.module = own_function m defined j e y e_at y_is ∙ sym (own_function m defined i d x d_at x_is) in
    let handles : e.handle ≡ d.handle =
    one_place (λ (a b : FunctionHandle). (a.module == b.module) && (a.name == b.name)) m.function_handles e.handle d.handle y x defined.function_handles y_is x_is
    (and_from _ _ (eq-eqb _ _ homes) (eq-eqb _ _ names)) (and_from _ _ (eq-eqb _ _ (sym homes)) (eq-eqb _ _ (sym names))) in
    let d_listed : slice_get (map function_handle_of m.functions) i ≡ Some d.handle = slice_get-map function_handle_of m.functions i ∙ ap (option_map function_handle_of) d_at in
    let e_listed : slice_get (map function_handle_of m.functions) j ≡ Some d.handle =
    slice_get-map function_handle_of m.functions j ∙ ap (option_map function_handle_of) e_at ∙ ap (λ x. Some x) handles in
    defined_alone (function_home m) m.own (length m.function_handles) d.handle j i (map function_handle_of m.functions) defined.functions (slice_get_within m.function_handles d.handle x x_is) e_listed d_listed))

-- an identifier that passes the test is the identifier
pub function_named_so : (found : Option (List ℕ)) (name : List ℕ) → option_map_or (bytes_eq name) found false ≡ true → found ≡ Some name
function_named_so found name e = let s = passing (bytes_eq name) found e in s.1 ∙ ap Some (sym ((bytes_eq-Decides name s.0).0 s.2))

-- the first definition with an identifier is the one that has it
pub function-at : (m : Module) → WellDefined m → (name : List ℕ) (i : ℕ) (d : FunctionDefinition) → slice_get m.functions i ≡ Some d → option_map_or (bytes_eq name) (name_of_function m d) false ≡ true
    → function_place m name ≡ Some i
function-at m defined name i d d_at passes =
    find_first (λ d. option_map_or (bytes_eq name) (name_of_function m d) false) m.functions i d d_at passes
    (λ j e l e_at too.
    let same : j ≡ i = one_function m defined i j d e name d_at e_at (function_named_so (name_of_function m d) name passes) (function_named_so (name_of_function m e) name too) in
    omega (arith, l, same))

-- and that with a name is the one that has it
pub struct-at : (m : Module) → WellDefined m → (name : StructName) (i : ℕ) (d : StructDefinition) → slice_get m.structs i ≡ Some d → is_struct m name d ≡ true
    → find_index (is_struct m name) m.structs ≡ Some i
struct-at m defined name i d d_at passes =
    let named : struct_name m d.handle ≡ Some name = struct_named_so (name_of_struct m d) name passes in
    struct_parts m d.handle name named (λ handle is home_is name_is. definition_place m defined name i d d_at named (slice_get_within m.struct_handles d.handle handle is))
