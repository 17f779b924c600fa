-- What the phases and the link rules let into a store.
use Rattle.std.specs.Prelude.{◌≡◌, ℕ, IsTrue, List, Some, slice_get}
use Rattle.mv_move_types.specs.Module.{Module}
use Rattle.mv_bound_rules.specs.Bounds.{InBounds}
use Rattle.mv_bound_rules.specs.Definitions.{WellDefined, all_differ}
use Rattle.mv_signatures.specs.Signatures.{WellSigned}
use Rattle.mv_abilities.specs.Abilities.{AbilitiesHold}
use Rattle.mv_cfg.specs.Blocks.{FlowHolds}
use Rattle.mv_type_rules.specs.TypesHold.{TypesHold}
use Rattle.mv_binary_format.specs.ModuleText.{HasText}
use Rattle.mv_link_rules.specs.StoreRules.{Links}
use Rattle.mv_move_types.specs.Named.{have_one_name}

-- a module passes what it has to alone, and has a text
pub record ModuleAccepted (m : Module) : Type 0 where
  pub bounds : InBounds m
  pub defined : WellDefined m
  pub signed : WellSigned m
  pub abilities : AbilitiesHold m
  pub flow : FlowHolds m
  pub types : TypesHold m
  pub text : HasText m

-- each module of a store does, and together they link
pub record StoreAccepted (modules : List Module) : Type 0 where
  pub each : (place : ℕ) (m : Module) → slice_get modules place ≡ Some m → ModuleAccepted m
  pub once : IsTrue (all_differ have_one_name modules)
  pub links : Links modules
