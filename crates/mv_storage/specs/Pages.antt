-- The values of one struct, in pages.
--   values_from storage d from       those at addresses from one on
--   PageView, page_of d most es      what a page of a struct has yet to tell, where so many of these values are looked at
--   IsPage storage d from most page  a page of those values, for which no more than so many keys are looked at
-- The others are parts of these.
use Rattle.std.specs.Prelude.{◌≡◌, ℕ, ◌+◌, ◌^◌, ◌==◌, ◌&&◌, ◌||◌, ◌<◌, ◌≤◌, nat_le, nat_lt, Bool, cond, [], ◌++◌, length, take, slice_get, Option, Some, None, IfSome}
use Rattle.std.specs.List.{filter}
use Rattle.std.specs.Option.{option_and_then, option_map_or}
use Rattle.mv_move_types.specs.declared.tables.Definition.{Definition}
use Rattle.mv_move_types.specs.declared.tables.Key.{Key}
use Rattle.mv_storage.specs.FlatStorage.{FlatStorage}

-- whether a key is one of the struct of a definition
abbrev pub is_own : Definition → Key → Bool
is_own d key = (key.place == d.place) && (key.index == d.index)

-- the values of a struct that are stored at addresses from one on
abbrev pub values_from : FlatStorage → Definition → ℕ → FlatStorage
values_from storage d from = filter (λ e. is_own d e.key && nat_le from e.key.address) storage

-- whether the struct of a key comes before another at the same address, or is it
abbrev pub is_up_to : Key → Definition → Bool
is_up_to key d = nat_lt key.place d.place || (key.place == d.place) && nat_le key.index d.index

-- the address from which values of a struct stand at a key or behind it, if there is one
abbrev pub address_after : Definition → Key → Option ℕ
address_after d key = cond (is_up_to key d) (Some key.address) (cond (nat_lt (key.address + 1) (2 ^ 128)) (Some (key.address + 1)) None)

-- the values that a page has yet to tell, and the address from which the next page goes on, if there may be more
pub record PageView : Type 0 where
  pub values : FlatStorage
  pub next : Option ℕ

-- a page of a struct, for which so many of these values are looked at
abbrev pub page_of : Definition → ℕ → FlatStorage → PageView
page_of d most entries = record {
  values = filter (λ e. is_own d e.key) (take most entries);
  next = option_and_then (λ e. address_after d e.key) (slice_get entries most);
}

-- The page, and what the next ones tell, are the values of the struct from an address on. A page that may look at a key goes on.
pub record IsPage (storage : FlatStorage) (d : Definition) (from most : ℕ) (page : PageView) : Type 0 where
  pub all : page.values ++ option_map_or (values_from storage d) page.next [] ≡ values_from storage d from
  pub few : length page.values ≤ most
  pub on : 1 ≤ most → IfSome page.next (λ next. from < next)
