-- Where the structs and functions that a module's handles name are defined.
--   IsFunctionIn m handle n index   the function that a handle names stands at an index of a module
--   IsStructAt modules m h d        where the struct that a handle names is defined: a place and an index
--   IsFunctionAt modules m h d      the same of a function
--   EachAt P xs                     a fact of each element and its place
--   AreStructsAt, AreFunctionsAt    the same of all handles of a module, in order
use Rattle.std.specs.Prelude.{◌≡◌, ℕ, List, length, Some, slice_get}
use Rattle.mv_move_types.specs.declared.tables.Definition.{Definition}
use Rattle.mv_move_types.specs.declared.tables.FunctionHandle.{FunctionHandle}
use Rattle.mv_move_types.specs.Names.{ModuleName, StructName}
use Rattle.mv_move_types.specs.Module.{Module, module_name, struct_name}
use Rattle.mv_move_types.specs.Named.{module_place, is_struct, function_place}
use Rattle.mv_move_types.specs.Options.{find_index}

-- the index of the function that a handle names, in the module that it is of
pub record IsFunctionIn (m : Module) (handle : FunctionHandle) (n : Module) (index : ℕ) : Type 0 where
  pub name : List ℕ
  pub named : slice_get m.identifiers handle.name ≡ Some name
  pub place : function_place n name ≡ Some index

-- where the struct that a handle names is defined
pub record IsStructAt (modules : List Module) (m : Module) (h : ℕ) (d : Definition) : Type 0 where
  pub name : StructName
  pub home : Module
  pub named : struct_name m h ≡ Some name
  pub place : module_place modules name.home ≡ Some d.place
  pub there : slice_get modules d.place ≡ Some home
  pub index : find_index (is_struct home name) home.structs ≡ Some d.index

-- where the function that a handle names is defined
pub record IsFunctionAt (modules : List Module) (m : Module) (h : ℕ) (d : Definition) : Type 0 where
  pub handle : FunctionHandle
  pub name : ModuleName
  pub home : Module
  pub is_handle : slice_get m.function_handles h ≡ Some handle
  pub named : module_name m handle.module ≡ Some name
  pub place : module_place modules name ≡ Some d.place
  pub there : slice_get modules d.place ≡ Some home
  pub index : IsFunctionIn m handle home d.index

-- a fact of each element and its place
abbrev pub EachAt : {A : Type 0} → (ℕ → A → Type 0) → List A → Type 0
EachAt {A} P xs = (k : ℕ) (x : A) → slice_get xs k ≡ Some x → P k x

-- where the structs of all handles are defined, in order
pub record AreStructsAt (modules : List Module) (m : Module) (ds : List Definition) : Type 0 where
  pub len : length ds ≡ length m.struct_handles
  pub each : EachAt (IsStructAt modules m) ds

-- where the functions of all handles are defined, in order
pub record AreFunctionsAt (modules : List Module) (m : Module) (ds : List Definition) : Type 0 where
  pub len : length ds ≡ length m.function_handles
  pub each : EachAt (IsFunctionAt modules m) ds
