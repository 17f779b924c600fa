-- Stores whose abilities hold.
use Rattle.std.specs.Prelude.{IsTrue, List}
use Rattle.std.specs.List.{AllByRecursion, list_all}
use Rattle.mv_move_types.specs.Module.{Module}
use Rattle.mv_abilities.specs.Abilities.{AbilitiesHold}
use Rattle.mv_signatures.specs.Signatures.{entry_fits}
use Rattle.mv_link_rules.specs.StoreRules.{structs_are_there}

-- what of the phases the counts rest on: abilities hold, handles carry the declared abilities, entry functions have no results
pub record IsAbleStore (modules : List Module) : Type 0 where
  pub able : AllByRecursion AbilitiesHold modules
  pub structs : IsTrue (list_all (λ m. structs_are_there modules m 0 m.struct_handles) modules)
  pub entries : AllByRecursion (λ m. IsTrue (list_all (entry_fits m) m.functions)) modules
