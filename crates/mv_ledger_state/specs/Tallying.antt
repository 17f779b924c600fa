-- The tallies after a bundle, and after a run.
-- First the tallies after a bundle, then those after a run (why they stand by module: decision 21).
--   AddsTallies old new before after      after a bundle each scarce struct has the tally that it had, or an empty one
--   tallies_at place m had                the tallies of a module, after those of the one that it replaces
--   place_for old next m                  where a module is to stand
--   ArePlacedFor old tss next ms placed   the modules of a bundle are placed in order, each with its tallies
--   tally_after run t                     a tally after a run
--   HasRoomLeft, HasRoomFor, IsRoomFor    a tally stays within 128 bits
--   AreInOrder ts                         tallies of a module ascend by index
-- The others are parts of these.
use Rattle.std.specs.Prelude.{◌≡◌, ℕ, ◌+◌, ◌^◌, ◌<◌, Bool, true, cond, List, [], ◌∷◌, ◌++◌, map, drop, length, option_and_then, unwrap_or, slice_get}
use Rattle.std.specs.List.{list_any}
use Rattle.std.specs.List.Sorted.{IsStrictlyIncreasing}
use Rattle.mv_move_types.specs.Module.{Module, own_name}
use Rattle.mv_move_types.specs.Named.{have_one_name, module_place}
use Rattle.mv_move_types.specs.Published.{PublishedModule}
use Rattle.mv_machine.specs.Ledger.{scarce_structs, tally_of}
use Rattle.mv_link_rules.specs.Link.{tables_in}
use Rattle.mv_frames.specs.Counters.{is_tally_at, packs_at, unpacks_at}
use Rattle.mv_machine.specs.declared.StructTally.{StructTally}
use Rattle.mv_machine.specs.declared.Tally.{Tally}
use Rattle.mv_ledger_state.specs.declared.tallies.Placed.{Placed}
use Rattle.mv_ledger_state.specs.View.{scarce_indices}
use Rattle.mv_machine.specs.Tallies.{tallied}

-- each struct with neither copy nor drop has the tally that it had, or an empty one
abbrev pub AddsTallies : List PublishedModule → List PublishedModule → List Tally → List Tally → Type 0
AddsTallies old new before after =
    map (tallied (tables_in new)) after ≡ map (tally_of (map (tallied (tables_in old)) before)) (scarce_structs (tables_in new))

-- the tally of the struct at a place and an index whose values were neither made nor taken apart
abbrev pub fresh_tally : ℕ → ℕ → Tally
fresh_tally place index = record { place = place; index = index; packs = 0; unpacks = 0 }

-- The tallies of a module's structs with neither copy nor drop, after those that it had: a module that takes another's place
-- has that one's structs first.
abbrev pub tallies_at : ℕ → Module → List Tally → List Tally
tallies_at place m had = had ++ map (fresh_tally place) (drop (length had) (scarce_indices m))

-- where a module is to stand: in the place of the published one of its name, or in this next place
abbrev pub place_for : List Module → ℕ → Module → ℕ
place_for old next m = unwrap_or (option_and_then (module_place old) (own_name m)) next

-- whether a published module has its name
abbrev pub is_published : List Module → Module → Bool
is_published old m = list_any (have_one_name m) old

-- the modules of a bundle are placed in order, each with its tallies
abbrev pub ArePlacedFor : List Module → List (List Tally) → ℕ → List Module → List Placed → Type 0
ArePlacedFor old tss next [] [] = Unit {0}
ArePlacedFor old tss next [] (p ∷ ps) = ⊥
ArePlacedFor old tss next (m ∷ ms) [] = ⊥
ArePlacedFor old tss next (m ∷ ms) (p ∷ ps) =
    (p.place ≡ place_for old next m)
    × (p.tallies.items ≡ tallies_at p.place m (unwrap_or (slice_get tss p.place) []))
    × ArePlacedFor old tss (cond (is_published old m) next (next + 1)) ms ps

-- a tally with what a run did
abbrev pub tally_after : List StructTally → Tally → Tally
tally_after run t = record t { packs = t.packs + packs_at t.place t.index run; unpacks = t.unpacks + unpacks_at t.place t.index run }

-- a tally has room in 128 bits for one more run
abbrev pub HasRoomLeft : Tally → Type 0
HasRoomLeft t = (t.packs + 2 ^ 64 < 2 ^ 128) × (t.unpacks + 2 ^ 64 < 2 ^ 128)

-- a tally has room in 128 bits for what a run did with values of one struct
abbrev pub HasRoomFor : StructTally → Tally → Type 0
HasRoomFor e t = (t.packs + e.packs < 2 ^ 128) × (t.unpacks + e.unpacks < 2 ^ 128)

-- it has, if it is that struct's
abbrev pub IsRoomFor : StructTally → Tally → Type 0
IsRoomFor e t = is_tally_at t.place t.index e ≡ true → HasRoomFor e t

-- tallies of one module stand by ascending index
abbrev pub AreInOrder : List Tally → Type 0
AreInOrder ts = IsStrictlyIncreasing (map (λ t. t.index) ts)
