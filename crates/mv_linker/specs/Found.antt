-- What the modules of a scope are to those that name them.
--   AreOutlines ms outlines    the outlines of modules, in order
--   IsFound modules n f        what was found is the module
--   IsTarget modules m h t     the module that a handle names, with its place
--   AreTargets modules m ts    those of all handles, in order
use Rattle.std.specs.Prelude.{◌≡◌, ℕ, List, length, Some, slice_get}
use Rattle.mv_move_types.specs.Names.{ModuleName}
use Rattle.mv_move_types.specs.Module.{Module, module_name}
use Rattle.mv_move_types.specs.Named.{module_place}
use Rattle.mv_bound_rules.specs.Definitions.{WellDefined}
use Rattle.mv_interface.specs.Interface.{IsInterface}
use Rattle.mv_interface.specs.Outline.{AreEach, IsOutline, OutlineView}
use Rattle.mv_linker.specs.declared.rules.named_modules.Found.{Found}
use Rattle.mv_linker.specs.declared.rules.named_modules.Found.TheVariants.{New, Kept}
use Rattle.mv_linker.specs.declared.rules.named_modules.Target.{Target}

-- the outlines of modules, in order
abbrev pub AreOutlines : List Module → List OutlineView → Type 0
AreOutlines modules outlines = AreEach IsOutline modules outlines

-- a module of the bundle with its outline, or what the store keeps of one
abbrev pub IsFound : List Module → Module → Found → Type 0
IsFound modules n (New m outline) = (m.now ≡ n) × IsOutline n outline.now
IsFound modules n (Kept interface) = IsInterface modules n interface.now

-- the module that a handle names, with its place; it is well defined
pub record IsTarget (modules : List Module) (m : Module) (h : ℕ) (t : Target) : Type 0 where
  pub name : ModuleName
  pub home : Module
  pub named : module_name m h ≡ Some name
  pub place : module_place modules name ≡ Some t.place
  pub there : slice_get modules t.place ≡ Some home
  pub defined : WellDefined home
  pub found : IsFound modules home t.module

-- those of all the handles, in order
pub record AreTargets (modules : List Module) (m : Module) (targets : List Target) : Type 0 where
  pub len : length targets ≡ length m.module_handles
  pub each : (h : ℕ) (t : Target) → slice_get targets h ≡ Some t → IsTarget modules m h t
