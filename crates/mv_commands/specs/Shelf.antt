-- What the names of a shelf lead to.
use Rattle.std.specs.Prelude.{option_map}
use Rattle.mv_commands.specs.Names.{Stands}
use Rattle.mv_commands.specs.declared.shelf.Shelf.{Shelf}

abbrev pub stands_of : Shelf → Stands
stands_of m = record {
  place = option_map (λ s. s.now) m.place;
  beside = option_map (λ s. s.now) m.beside;
  fresh = option_map (λ s. s.now) m.fresh;
  unsaved = option_map (λ s. s.now) m.unsaved;
}
