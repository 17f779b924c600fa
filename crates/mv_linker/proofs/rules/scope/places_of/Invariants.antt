use Rattle.mv_linker.proofs.Common.{take, ArePlacesOf, tables_in, offered}
use Rattle.mv_linker.proofs.Joining.Scopes.{PlacesSoFar}
use Rattle.mv_linker.proofs.rules.scope.places_of.Given as goal

abbrev pub invariant-loop-i : goal.invariant-loop-i
invariant-loop-i l = PlacesSoFar (tables_in l.store) l.new l.places.items l.count l.i × ArePlacesOf l.names (offered (take l.i l.new)) l.places.items
