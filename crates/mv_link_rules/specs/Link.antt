-- What a bundle has to be, over the whole store that results.
--   AreSentBy sender bundle            each module's address is the sender's, if there is one
--   tables_in published                the modules' tables
--   IsPublishable p                    what a module of a store passed: phases 2 to 12
--   IsStore store                      a store: each module passed, names differ, and the modules name each other as they are
--   are_compatible old bundle          each module of a bundle may replace the one whose place it takes
--   MayJoin sender old bundle result   a bundle may join the store
--   replaced_in old n                  the place of the old module that has the name of n
--   follows, all_follow                are_compatible, asked module by module
-- is_sent_by is a part of these. Rules c to g are in StoreRules.antt, rule h in Upgrades.antt.
use Rattle.std.specs.Prelude.{◌≡◌, ℕ, Bool, true, false, not, ◌==◌, ◌||◌, List, map, All, Option, Some, None, IsTrue, ⊤}
use Rattle.std.specs.Option.{option_map_or}
use Rattle.std.specs.List.{list_all}
use Rattle.mv_move_types.specs.Options.{◌>>=◌}
use Rattle.mv_move_types.specs.Module.{Module, own_name}
use Rattle.mv_move_types.specs.Published.{PublishedModule}
use Rattle.mv_move_types.specs.Named.{module_place, module_named}
pub use Rattle.mv_move_types.specs.Named.{have_one_name}
use Rattle.mv_binary_format.specs.Parsing.{module_of}
use Rattle.mv_binary_format.specs.ModuleText.{HasText}
use Rattle.mv_bound_rules.specs.Definitions.{all_differ}
use Rattle.mv_certificate_rules.specs.Verified.{AcquiresHold, IsCertifiedBy, IsSound}
use Rattle.mv_link_rules.specs.StoreRules.{Links}
use Rattle.mv_link_rules.specs.Upgrades.{may_replace}

-- the module's own address is the sender
abbrev pub is_sent_by : ℕ → Module → Bool
is_sent_by sender m = option_map_or (λ name. name.address == sender) (own_name m) false

-- the bundle comes from the sender, where there is one
abbrev pub AreSentBy : Option ℕ → List Module → Type 0
AreSentBy None bundle = ⊤
AreSentBy (Some sender) bundle = IsTrue (list_all (is_sent_by sender) bundle)

-- the published modules' tables
abbrev pub tables_in : List PublishedModule → List Module
tables_in published = map (λ p. p.tables) published

-- what a module of a store passed, read from its texts
pub record IsPublishable (p : PublishedModule) : Type 0 where
  pub text : module_of p.text ≡ Some p.tables
  pub spelled : HasText p.tables
  pub sound : IsSound p.tables
  pub acquires : AcquiresHold p.tables
  pub certificate : IsCertifiedBy p.tables p.certificate

-- a store of modules: each passed its phases, no two have one name, and they name each other as they are
pub record IsStore (store : List PublishedModule) : Type 0 where
  pub passed : All IsPublishable store
  pub once : IsTrue (all_differ have_one_name (tables_in store))
  pub links : Links (tables_in store)

-- a module takes the place of none of the old ones but one that it may replace
abbrev pub are_compatible : List Module → List Module → Bool
are_compatible old bundle = list_all (λ m. list_all (λ n. not (have_one_name m n) || may_replace m n) bundle) old

-- A bundle may join the old modules, which gives the result: it is the sender's, its names differ, it replaces what it may,
-- and the modules of the result name each other as they are.
pub record MayJoin (sender : Option ℕ) (old bundle result : List Module) : Type 0 where
  pub sent : AreSentBy sender bundle
  pub once : IsTrue (all_differ have_one_name bundle)
  pub compatible : IsTrue (are_compatible old bundle)
  pub links : Links result

-- the place of the old module that a module has the name of
abbrev pub replaced_in : List Module → Module → Option ℕ
replaced_in old n = own_name n >>= module_place old

-- a module replaces nothing, or what it may replace
abbrev pub follows : List Module → Module → Bool
follows old n = option_map_or (λ m. may_replace m n) (own_name n >>= module_named old) true

-- each module does
abbrev pub all_follow : List Module → List Module → Bool
all_follow old bundle = list_all (follows old) bundle
