-- What the modules of a store have to be to each other: rules c to g of linking.
--   modules_are_there store m h           c: the modules that the handles name are in the store
--   structs_are_there store m h handles   d: the structs are there, with the same abilities
--   function_named m name                 the function of a module with this identifier
--   function_is_there store m handle      e: the function is there, with the same types, and public if it is another module's
--   depends_on m n, Reaches store         f: a module has a handle of another one, and a chain of such handles
--   struct_is_small store m d             g: a struct is within the limits of leaves and of nesting
--   Links store                           the modules of a store keep rules c to g
--   names_hold store m                    a module keeps c, d and e
-- The others are parts of these. How c to e are tested: decision 82; f: decision 31; g: decision 30.
use Rattle.std.specs.Prelude.{ℕ, zero, suc, ◌+◌, Bool, true, false, not, ◌&&◌, ◌||◌, nat_le, IsTrue, List, [], ◌∷◌, length, Option, Contains, slice_get}
use Rattle.std.specs.List.{list_all, list_any}
use Rattle.std.specs.Option.{option_map_or}
use Rattle.mv_move_types.specs.Limits.{most_leaves, most_nesting}
use Rattle.mv_move_types.specs.declared.tables.StructHandle.{StructHandle}
use Rattle.mv_move_types.specs.declared.tables.FunctionHandle.{FunctionHandle}
use Rattle.mv_move_types.specs.Options.{◌>>=◌}
use Rattle.mv_move_types.specs.Leaves.{leaves_within}
use Rattle.mv_move_types.specs.AbilitySets.{same_abilities}
use Rattle.mv_move_types.specs.Module.{Module, StructDefinition, FunctionDefinition, module_name, struct_name, name_of_struct}
use Rattle.mv_move_types.specs.Named.{is_module, have_one_name, module_named, declared, function_place, is_public}
use Rattle.mv_bound_rules.specs.TypesByName.{same_signature}

-- c: the module that a handle names is in the store
abbrev pub module_is_there : List Module → Module → ℕ → Bool
module_is_there store m h = option_map_or (λ name. list_any (is_module name) store) (module_name m h) false

-- each module that a handle names is
abbrev pub modules_are_there : List Module → Module → ℕ → Bool
modules_are_there store m zero = true
modules_are_there store m (suc h) = module_is_there store m h && modules_are_there store m h

-- d: a struct handle names a struct that is there, with the same abilities
abbrev pub struct_is_there : List Module → Module → ℕ → StructHandle → Bool
struct_is_there store m h handle =
    option_map_or (λ name. option_map_or (same_abilities handle.abilities) (declared store name) false) (struct_name m h) false

-- each struct handle from this index on names such a struct
abbrev pub structs_are_there : List Module → Module → ℕ → List StructHandle → Bool
structs_are_there store m h [] = true
structs_are_there store m h (s ∷ ss) = struct_is_there store m h s && structs_are_there store m (h + 1) ss

-- the function of a module with this identifier
abbrev pub function_named : Module → List ℕ → Option FunctionDefinition
function_named m name = function_place m name >>= slice_get m.functions

-- e: a function handle names a function that is there with the same types, and is public if its module is another one
abbrev pub function_fits : Module → FunctionHandle → Module → FunctionDefinition → Bool
function_fits m handle n d =
    (is_public d || have_one_name m n)
    && option_map_or (λ (own : FunctionHandle). same_signature m handle.parameters n own.parameters && same_signature m handle.results n own.results)
    (slice_get n.function_handles d.handle) false

-- a function handle names such a function
abbrev pub function_is_there : List Module → Module → FunctionHandle → Bool
function_is_there store m handle =
    option_map_or (λ n. option_map_or (λ name. option_map_or (function_fits m handle n) (function_named n name) false)
    (slice_get m.identifiers handle.name) false)
    (module_name m handle.module >>= module_named store) false

-- some of a module's first handles names a module
abbrev pub names_module : Module → Module → ℕ → Bool
names_module m n zero = false
names_module m n (suc h) = option_map_or (λ name. is_module name n) (module_name m h) false || names_module m n h

-- f: a module has a handle of another one
abbrev pub depends_on : Module → Module → Bool
depends_on m n = not (have_one_name m n) && names_module m n (length m.module_handles)

-- a chain of such handles leads from one module of the store to another
pub data Reaches (store : List Module) : Module → Module → Type 0 where
  directly : (m n : Module) → Contains store m → Contains store n → IsTrue (depends_on m n) → Reaches store m n
  further : (m n o : Module) → Reaches store m n → Reaches store n o → Reaches store m o

-- g: a struct's nesting is at most 8, and it has at most 256 leaf values
abbrev pub struct_is_small : List Module → Module → StructDefinition → Bool
struct_is_small store m d =
    option_map_or (λ n. nat_le n most_leaves) (name_of_struct m d >>= leaves_within most_nesting store) false

-- the modules of a store name each other as they are, without a cycle, and their structs are small
pub record Links (store : List Module) : Type 0 where
  pub modules : IsTrue (list_all (λ m. modules_are_there store m (length m.module_handles)) store)
  pub structs : IsTrue (list_all (λ m. structs_are_there store m 0 m.struct_handles) store)
  pub functions : IsTrue (list_all (λ m. list_all (function_is_there store m) m.function_handles) store)
  pub ordered : (m : Module) → Reaches store m m → ⊥
  pub small : IsTrue (list_all (λ m. list_all (struct_is_small store m) m.structs) store)

-- c, d and e of a module
abbrev pub names_hold : List Module → Module → Bool
names_hold store m =
    modules_are_there store m (length m.module_handles) && structs_are_there store m 0 m.struct_handles
    && list_all (function_is_there store m) m.function_handles
