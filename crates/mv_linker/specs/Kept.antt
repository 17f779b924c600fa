-- A published module as the store keeps it.
--   Kept, published_in kept                       a published module with its name; and the modules alone
--   name_in key                                   the name that a key of the store stands for
--   published_as texts, published_under entries   the published module that has these texts; and all those of a store
--   AreKeyed entries                              each module stands under its own name
use Rattle.std.specs.Prelude.{◌≡◌, List, All, map, Some}
use Rattle.std.specs.Cow.{cow_slice_items}
use Rattle.mv_move_types.specs.Names.{ModuleName}
use Rattle.mv_move_types.specs.Published.{PublishedModule}
use Rattle.mv_move_types.specs.Module.{own_name}
use Rattle.mv_binary_format.specs.Parsing.{tables_of}
use Rattle.mv_linker.specs.declared.store.entry.Name.{Name}
use Rattle.mv_linker.specs.declared.store.entry.Texts.{Texts}

-- a published module, with its name beside it
pub record Kept : Type 0 where
  pub published : PublishedModule
  pub name : ModuleName

-- the modules alone
abbrev pub published_in : List Kept → List PublishedModule
published_in kept = map (λ k. k.published) kept

-- the name that a key of the store stands for
abbrev pub name_in : Name → ModuleName
name_in k = record { address = k.address; name = cow_slice_items k.identifier }

-- the published module that has these texts
abbrev pub published_as : Texts → PublishedModule
published_as t = record { text = t.module.items; certificate = t.certificate.items; tables = tables_of t.module.items }

-- the modules of a store, without their keys
abbrev pub published_under : List (Name × Texts) → List PublishedModule
published_under entries = map (λ e. published_as e.1) entries

-- each module stands under its own name
abbrev pub AreKeyed : List (Name × Texts) → Type 0
AreKeyed entries = All (λ (e : Name × Texts). own_name (published_as e.1).tables ≡ Some (name_in e.0)) entries
