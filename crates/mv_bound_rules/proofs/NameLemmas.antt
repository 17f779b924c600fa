-- What the tests of names mean, and where a module of a name stands.
use Rattle.mv_bound_rules.proofs.Common.{ℕ, ◌<◌, ◌∙◌, ◌≡◌, List, Module, ModuleHandle, ModuleName, Option, Some, StructDefinition, StructHandle, StructName, all_differ, and_from, and_parts, ap}
use Rattle.mv_bound_rules.proofs.Common.{ap₂, arith, both_ways, bytes_eq, bytes_eq-Decides, cases_order, eq-eqb, eqb, eqb-true, false, first_so, have_one_name, inl, inr, is_module}
use Rattle.mv_bound_rules.proofs.Common.{length, module_name, module_place, name_at, name_of_struct, not, not-true, on_bind, option_map_or, or_cases, or_left, or_right, own_name}
use Rattle.mv_bound_rules.proofs.Common.{refl, same_module, same_Some, same_struct, second_so, slice_get, struct_name, suc, sym, true, zero}
use Rattle.std.proofs.lemmas.Option.{slice_get_within}
use Rattle.mv_bound_rules.proofs.Found.{differ_at, find_first, found_at, one_place, passing}

abbrev pub module_of : ℕ → List ℕ → ModuleName
module_of address name = record { address = address; name = name }

abbrev pub named_in : ModuleName → List ℕ → StructName
named_in home name = record { home = home; name = name }

-- the parts of the name of a module, of a struct, and of a struct at a place
pub module_parts : {P : Type 0} (m : Module) (h : ℕ) (name : ModuleName) → module_name m h ≡ Some name
    → ((x : ModuleHandle) → slice_get m.module_handles h ≡ Some x → slice_get m.addresses x.address ≡ Some name.address → slice_get m.identifiers x.name ≡ Some name.name → P) → P
module_parts m h name e go =
    on_bind (slice_get m.module_handles h) _ name e (λ x x_is e1. on_bind (slice_get m.addresses x.address) _ name e1 (λ p p_is e2. on_bind (slice_get m.identifiers x.name) _ name e2 (λ n n_is e3.
    let same = same_Some (record { address = p; name = n }) name e3 in
    go x x_is (p_is ∙ ap (λ (z : ModuleName). Some z.address) same) (n_is ∙ ap (λ (z : ModuleName). Some z.name) same))))

-- a handle that names a module is there
pub handle-below : (m : Module) (h : ℕ) (name : ModuleName) → module_name m h ≡ Some name → h < length m.module_handles
handle-below m h name e =
    module_parts m h name e (λ handle at address_is name_is. slice_get_within m.module_handles h handle at)

pub struct_parts : {P : Type 0} (m : Module) (h : ℕ) (name : StructName) → struct_name m h ≡ Some name
    → ((x : StructHandle) → slice_get m.struct_handles h ≡ Some x → module_name m x.module ≡ Some name.home → slice_get m.identifiers x.name ≡ Some name.name → P) → P
struct_parts m h name e go =
    on_bind (slice_get m.struct_handles h) _ name e (λ x x_is e1. on_bind (module_name m x.module) _ name e1 (λ p p_is e2. on_bind (slice_get m.identifiers x.name) _ name e2 (λ n n_is e3.
    let same = same_Some (record { home = p; name = n }) name e3 in
    go x x_is (p_is ∙ ap (λ (z : StructName). Some z.home) same) (n_is ∙ ap (λ (z : StructName). Some z.name) same))))

pub name_parts : {P : Type 0} (modules : List Module) (p i : ℕ) (name : StructName) → name_at modules p i ≡ Some name
    → ((m : Module) (d : StructDefinition) → slice_get modules p ≡ Some m → slice_get m.structs i ≡ Some d → name_of_struct m d ≡ Some name → P) → P
name_parts modules p i name e go = on_bind (slice_get modules p) _ name e (λ m at e1. on_bind (slice_get m.structs i) _ name e1 (λ d d_at named. go m d at d_at named))

pub same_module-same : (a : ModuleName) → same_module a a ≡ true
same_module-same a = and_from _ _ (eq-eqb a.address a.address refl) ((bytes_eq-Decides a.name a.name).1 refl)

pub same_module-is : (a b : ModuleName) → same_module a b ≡ true → a ≡ b
same_module-is a b h =
    let address : a.address ≡ b.address = eqb-true a.address b.address (first_so (eqb a.address b.address) (bytes_eq a.name b.name) h) in
    let name : a.name ≡ b.name = (bytes_eq-Decides a.name b.name).0 (second_so (eqb a.address b.address) (bytes_eq a.name b.name) h) in
    ap₂ module_of address name

pub same_struct-same : (a : StructName) → same_struct a a ≡ true
same_struct-same a = and_from _ _ (same_module-same a.home) ((bytes_eq-Decides a.name a.name).1 refl)

pub same_struct-is : (a b : StructName) → same_struct a b ≡ true → a ≡ b
same_struct-is a b h =
    let home : a.home ≡ b.home = same_module-is a.home b.home (first_so (same_module a.home b.home) (bytes_eq a.name b.name) h) in
    let name : a.name ≡ b.name = (bytes_eq-Decides a.name b.name).0 (second_so (same_module a.home b.home) (bytes_eq a.name b.name) h) in
    ap₂ named_in home name

-- a module of a name has that name
pub is_module-is : (name : ModuleName) (m : Module) → is_module name m ≡ true → own_name m ≡ Some name
is_module-is name m h = let s = passing (λ own. same_module own name) (own_name m) h in s.1 ∙ ap Some (same_module-is s.0 name s.2)

pub is_module-from : (name : ModuleName) (m : Module) → own_name m ≡ Some name → is_module name m ≡ true
is_module-from name m e = ap (λ o. option_map_or (λ own. same_module own name) o false) e ∙ same_module-same name

pub have_one_name-from : (m n : Module) (name : ModuleName) → own_name m ≡ Some name → own_name n ≡ Some name → have_one_name m n ≡ true
have_one_name-from m n name e g = ap (λ o. option_map_or (λ own. is_module own n) o false) e ∙ is_module-from name n g

pub have_one_name-is : (m n : Module) → have_one_name m n ≡ true → (name : ModuleName) × (own_name m ≡ Some name) × (own_name n ≡ Some name)
have_one_name-is m n h = let s = passing (λ own. is_module own n) (own_name m) h in (s.0, s.1, is_module-is s.0 n s.2)

-- two modules with one name pass the same tests
pub one_test : (m n : Module) → own_name m ≡ own_name n → (name : ModuleName) → is_module name m ≡ is_module name n
one_test m n e name = ap (λ (x : Option ModuleName). option_map_or (λ own. same_module own name) x false) e

-- a test of one name is a test of the name
pub have_one-is : (m n : Module) (own : ModuleName) → own_name m ≡ Some own → have_one_name m n ≡ is_module own n
have_one-is m n own e = ap (λ (x : Option ModuleName). option_map_or (λ name. is_module name n) x false) e

-- the module of a name stands at one place
pub name_at_one : (modules : List Module) (name : ModuleName) (j k : ℕ) (m n : Module) → all_differ have_one_name modules ≡ true → slice_get modules j ≡ Some m → slice_get modules k ≡ Some n
    → own_name m ≡ Some name → own_name n ≡ Some name → j ≡ k
name_at_one modules name j k m n once e g p q =
    one_place have_one_name modules j k m n once e g (have_one_name-from m n name p q) (have_one_name-from n m name q p)

pub module_place-is : (modules : List Module) (name : ModuleName) (k : ℕ) → module_place modules name ≡ Some k → (m : Module) × (slice_get modules k ≡ Some m) × (own_name m ≡ Some name)
module_place-is modules name k e =
    let f = found_at (is_module name) modules k e in
    (f.entry, f.at, is_module-is name f.entry f.passes)

pub module_place-from : (modules : List Module) (name : ModuleName) (k : ℕ) (m : Module) → all_differ have_one_name modules ≡ true → slice_get modules k ≡ Some m → own_name m ≡ Some name
    → module_place modules name ≡ Some k
module_place-from modules name k m once e own =
    find_first (is_module name) modules k m e (is_module-from name m own)
    (λ j y l g q. differ_at have_one_name modules j k y m once l g e (have_one_name-from y m name (is_module-is name y q) own))
