-- Where the structs that a bundle's handles name are defined.
use Rattle.std.specs.Prelude.{◌≡◌, ℕ, ◌==◌, List, Some, None, position}
use Rattle.std.specs.List.{AllZip}
use Rattle.mv_move_types.specs.declared.tables.Definition.{Definition}
use Rattle.mv_move_types.specs.Module.{Module}
use Rattle.mv_linker.specs.declared.rules.store_rules.Names.{Names}
use Rattle.mv_linker.specs.declared.rules.sizes.Defined.{Defined}
use Rattle.mv_linker.specs.declared.rules.sizes.Defined.TheVariants.{Published, Bundled}
use Rattle.mv_linker.specs.Stored.{IsSizeAt}

-- a struct of the bundle, whose modules take these places, or of an old module, with its size
abbrev pub IsFoundAt : List Module → List ℕ → Definition → Defined → Type 0
IsFoundAt old places d (Published size) = (position (λ p. p == d.place) places ≡ None) × IsSizeAt old d size
IsFoundAt old places d (Bundled k index) = (position (λ p. p == d.place) places ≡ Some k) × (index ≡ d.index)

-- the structs of a module's handles
abbrev pub AreFoundFor : List Module → List ℕ → Names → List Defined → Type 0
AreFoundFor old places names found = AllZip (IsFoundAt old places) names.structs.items found
