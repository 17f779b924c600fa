-- What the outline of a module says is what its tables say.
--   struct-named, struct-unnamed       the struct of an identifier is where the outline has it, or nowhere
--   struct-declared                    with the abilities of the outline
--   function-named, function-unnamed   the same of functions
--   matched, is-struct, ..             so it tells whether a module has the struct that a handle of another one names
--   function-matched, is-function, ..  and the function
use Rattle.mv_linker.proofs.Common.{ℕ, ◌>>=◌, ◌∙◌, ◌≡◌, FunctionDefinition, List, Module, ModuleName, None, Option, Some, StructDefinition, WellDefined, ap, arith}
use Rattle.mv_linker.proofs.Common.{declared_in, false, find_index, function_place, is_struct, module_name, name_of_function, name_of_struct, on_bind, option_map_or, own_name}
use Rattle.mv_linker.proofs.Common.{Abilities, Bool, FunctionHandle, IsFunctionIn, IsOf, IsStructOf, StructHandle, StructName, function_fits, function_matches, function_named, none-some, option_map, same_abilities, struct_matches}
use Rattle.mv_linker.proofs.Common.{refl, same_Some, slice_get, slice_get_within, struct_abilities, sym}
use Rattle.mv_interface.specs.Identifiers.{struct_identifier}
use Rattle.mv_interface.specs.Outline.{IsFunctionNamed, IsOutline, IsStructNamed, OutlineView, StructOutline}
use Rattle.mv_bound_rules.proofs.Found.{map_as_bind}
use Rattle.mv_linker.proofs.Lemmas.{element_at, found_at, struct_named_so, struct_parts}
use Rattle.mv_bound_rules.proofs.NameLemmas.{named_in}
use Rattle.mv_interface.proofs.OwnDefinitions.{own_handle, struct-at}
use Rattle.mv_linker.proofs.Joining.Upgraded.{so-struct}
use Rattle.mv_interface.proofs.OutlineLemmas.{named-place, no-function-named}

-- a definition with an identifier has the name of its module and the identifier
identified : (n : Module) (e : StructDefinition) (i : ℕ) (home : ModuleName) (name : List ℕ) → WellDefined n → slice_get n.structs i ≡ Some e → own_name n ≡ Some home
    → struct_identifier n e ≡ Some name → name_of_struct n e ≡ Some (named_in home name)
identified n e i home name defined at own identifier = on_bind (slice_get n.struct_handles e.handle) _ name identifier (λ handle handle_at name_at.
    let homes : module_name n handle.module ≡ Some home = ap (module_name n) (own_handle n defined i e handle at handle_at) ∙ own in
    rw (handle_at, homes, name_at) refl)

-- and the other way round
identifier-of : (n : Module) (e : StructDefinition) (home : ModuleName) (name : List ℕ) → name_of_struct n e ≡ Some (named_in home name) → struct_identifier n e ≡ Some name
identifier-of n e home name named = struct_parts n e.handle (named_in home name) named (λ handle handle_at home_is name_is. rw handle_at name_is)

module _ (n : Module) (defined : WellDefined n) (o : OutlineView) (is : IsOutline n o) where
  -- the definition of the struct that the outline has
  record StructThere (k : ℕ) (name : List ℕ) (s : IsStructNamed o k name) : Type 0 where
    definition : StructDefinition
    at : slice_get n.structs k ≡ Some definition
    identifier : struct_identifier n definition ≡ Some name
    abilities : struct_abilities n definition ≡ Some s.entry.abilities

  struct-there : (k : ℕ) (name : List ℕ) (s : IsStructNamed o k name) → StructThere k name s
  struct-there k name s =
      let d = element_at n.structs k (let low = slice_get_within o.structs k s.entry s.there in omega (arith, low, is.structs.len)) in
      let each = is.structs.each k d.0 s.entry d.1 s.there in
      record { definition = d.0; at = d.1; identifier = each.identifier ∙ ap (λ x. Some x) s.named; abilities = each.abilities }

  -- the struct of an identifier is where the outline has it
  pub struct-named : (home : ModuleName) (k : ℕ) (name : List ℕ) → own_name n ≡ Some home → IsStructNamed o k name → find_index (is_struct n (named_in home name)) n.structs ≡ Some k
  struct-named home k name own s =
      let t = struct-there k name s in
      struct-at n defined (named_in home name) k t.definition t.at
      (so-struct n (named_in home name) t.definition (identified n t.definition k home name defined t.at own t.identifier))

  -- with its abilities
  pub struct-declared : (home : ModuleName) (k : ℕ) (name : List ℕ) → own_name n ≡ Some home → (s : IsStructNamed o k name) → declared_in (named_in home name) n ≡ Some s.entry.abilities
  struct-declared home k name own s =
      let t = struct-there k name s in
      rw (struct-named home k name own s, t.at, map_as_bind) t.abilities

  -- or nowhere
  pub struct-unnamed : (home : ModuleName) (name : List ℕ) → ((k : ℕ) → IsStructNamed o k name → ⊥) → find_index (is_struct n (named_in home name)) n.structs ≡ None
  struct-unnamed home name never = by_place (find_index (is_struct n (named_in home name)) n.structs) refl
    where
      by_place : (found : Option ℕ) → find_index (is_struct n (named_in home name)) n.structs ≡ found → find_index (is_struct n (named_in home name)) n.structs ≡ None
      by_place None e = e
      by_place (Some k) e =
          let f = found_at (is_struct n (named_in home name)) n.structs k e in
          let named = struct_named_so (name_of_struct n f.entry) (named_in home name) f.passes in
          let s = element_at o.structs k (let low = slice_get_within n.structs k f.entry f.at in omega (arith, low, is.structs.len)) in
          let each = is.structs.each k f.entry s.0 f.at s.1 in
          absurd (never k (record { entry = s.0; there = s.1; named = same_Some s.0.identifier name (sym each.identifier ∙ identifier-of n f.entry home name named) }))

  -- the definition of the function that the outline has
  pub record FunctionThere (k : ℕ) (name : List ℕ) (s : IsFunctionNamed o k name) : Type 0 where
    pub definition : FunctionDefinition
    pub at : slice_get n.functions k ≡ Some definition
    pub identifier : name_of_function n definition ≡ Some name

  pub function-there : (k : ℕ) (name : List ℕ) (s : IsFunctionNamed o k name) → FunctionThere k name s
  function-there k name s =
      let d = element_at n.functions k (let low = slice_get_within o.functions k s.entry s.there in omega (arith, low, is.functions.len)) in
      record { definition = d.0; at = d.1; identifier = (is.functions.each k d.0 s.entry d.1 s.there).identifier ∙ ap (λ x. Some x) s.named }

  -- the function of an identifier is where the outline has it
  pub function-named : (k : ℕ) (name : List ℕ) → IsFunctionNamed o k name → function_place n name ≡ Some k
  function-named k name s = named-place n o.functions k name defined is.functions s.entry s.there s.named

  -- or nowhere
  pub function-unnamed : (name : List ℕ) → ((k : ℕ) → IsFunctionNamed o k name → ⊥) → function_place n name ≡ None
  function-unnamed name never = no-function-named n o.functions name is.functions (λ k f at named. never k (record { entry = f; there = at; named = named }))

-- ---- the struct of a handle

-- a struct that is nowhere has no abilities
undeclared : (n : Module) (name : StructName) → find_index (is_struct n name) n.structs ≡ None → declared_in name n ≡ None
undeclared n name e = rw e refl

module _ (m : Module) (handle : StructHandle) (n : Module) (home : ModuleName) (of : IsOf m handle.module n home) (o : OutlineView) (is : IsOutline n o) where
  abbrev matching : List ℕ → Bool
  matching name = option_map_or (same_abilities handle.abilities) (declared_in (named_in home name) n) false

  pub nameless : slice_get m.identifiers handle.name ≡ None → struct_matches m handle n home ≡ false
  nameless e = ap (λ x. option_map_or matching x false) e

  pub missing : (name : List ℕ) → slice_get m.identifiers handle.name ≡ Some name → ((k : ℕ) → IsStructNamed o k name → ⊥) → struct_matches m handle n home ≡ false
  missing name e never =
      ap (λ x. option_map_or matching x false) e
      ∙ ap (λ x. option_map_or (same_abilities handle.abilities) x false) (undeclared n (named_in home name) (struct-unnamed n of.defined o is home name never))

  pub matched : (name : List ℕ) (k : ℕ) (a : Abilities) → slice_get m.identifiers handle.name ≡ Some name → IsStructNamed o k name
      → Some a ≡ option_map (λ (s : StructOutline). s.abilities) (slice_get o.structs k) → struct_matches m handle n home ≡ same_abilities handle.abilities a
  matched name k a e s read =
      let same : a ≡ s.entry.abilities = same_Some a s.entry.abilities (read ∙ ap (option_map (λ (s : StructOutline). s.abilities)) s.there) in
      ap (λ x. option_map_or matching x false) e
      ∙ ap (λ x. option_map_or (same_abilities handle.abilities) x false) (struct-declared n of.defined o is home k name of.own s)
      ∙ ap (same_abilities handle.abilities) (sym same)

  pub is-struct : (name : List ℕ) (k : ℕ) → slice_get m.identifiers handle.name ≡ Some name → IsStructNamed o k name → IsStructOf m handle n home k
  is-struct name k e s = (name, e, struct-named n of.defined o is home k name of.own s)

-- a struct that is there has abilities
pub able : (o : OutlineView) (k : ℕ) (name : List ℕ) → IsStructNamed o k name → None ≡ option_map (λ (s : StructOutline). s.abilities) (slice_get o.structs k) → ⊥
able o k name s e = none-some s.entry.abilities (e ∙ ap (option_map (λ (s : StructOutline). s.abilities)) s.there)

-- ---- the function of a handle

pub function-nameless : (m : Module) (handle : FunctionHandle) (n : Module) → slice_get m.identifiers handle.name ≡ None → function_matches m handle n ≡ false
function-nameless m handle n e = ap (λ x. option_map_or (λ name. option_map_or (function_fits m handle n) (function_named n name) false) x false) e

module _ (m : Module) (handle : FunctionHandle) (n : Module) (defined : WellDefined n) (o : OutlineView) (is : IsOutline n o) where
  abbrev fitting : List ℕ → Bool
  fitting name = option_map_or (function_fits m handle n) (function_named n name) false

  pub function-missing : (name : List ℕ) → slice_get m.identifiers handle.name ≡ Some name → ((k : ℕ) → IsFunctionNamed o k name → ⊥) → function_matches m handle n ≡ false
  function-missing name e never =
      ap (λ x. option_map_or fitting x false) e ∙ ap (λ x. option_map_or (function_fits m handle n) (x >>= slice_get n.functions) false) (function-unnamed n defined o is name never)

  pub function-matched : (name : List ℕ) (k : ℕ) (b : Bool) → slice_get m.identifiers handle.name ≡ Some name → IsFunctionNamed o k name
      → ((d : FunctionDefinition) → slice_get n.functions k ≡ Some d → b ≡ function_fits m handle n d) → function_matches m handle n ≡ b
  function-matched name k b e s fits =
      let t = function-there n defined o is k name s in
      ap (λ x. option_map_or fitting x false) e ∙ ap (λ x. option_map_or (function_fits m handle n) (x >>= slice_get n.functions) false) (function-named n defined o is k name s)
      ∙ ap (λ x. option_map_or (function_fits m handle n) x false) t.at ∙ sym (fits t.definition t.at)

  pub is-function : (name : List ℕ) (k : ℕ) → slice_get m.identifiers handle.name ≡ Some name → IsFunctionNamed o k name → IsFunctionIn m handle n k
  is-function name k e s = record { name = name; named = e; place = function-named n defined o is k name s }
