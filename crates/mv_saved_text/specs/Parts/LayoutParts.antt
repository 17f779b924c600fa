-- The kinds of the leaves of structs, by what their fields are made of.
--   kinds_of_part modules depth part    the kinds of the leaves that a part stands for
--   PutsKinds kinds there old new       these kinds were put after others; or there are none
use Rattle.std.specs.Prelude.{◌≡◌, ℕ, Bool, true, false, List, [], ◌∷◌, ◌++◌, map, Option, Some, None}
use Rattle.mv_move_types.specs.declared.tables.Definition.{Definition}
use Rattle.mv_move_types.specs.declared.token.LeafKind.{LeafKind}
use Rattle.mv_move_types.specs.Options.{◌>>=◌}
use Rattle.mv_move_types.specs.Module.{Module, name_at}
use Rattle.mv_move_types.specs.Published.{PublishedModule}
use Rattle.mv_interface.specs.declared.shapes.Part.{Part}
use Rattle.mv_interface.specs.declared.shapes.Part.TheVariants.{Leaf, Struct, Nothing}
use Rattle.mv_link_rules.specs.Link.{IsStore, tables_in}
use Rattle.mv_saved_text.specs.Layouts.{kinds_within}
use Rattle.mv_saved_text.specs.SavedText.{keyed_indices}

-- the kinds of the leaves of the struct at a place and an index, if its nesting is at most so much
abbrev pub kinds_at : ℕ → List Module → Definition → Option (List LeafKind)
kinds_at depth modules d = name_at modules d.place d.index >>= kinds_within depth modules

-- the kinds of the leaves of a part, to a depth of nesting
abbrev pub kinds_of_part : List Module → ℕ → Part → Option (List LeafKind)
kinds_of_part modules depth (Leaf kind) = Some (kind ∷ [])
kinds_of_part modules depth (Struct d) = kinds_at depth modules d
kinds_of_part modules depth Nothing = None

-- those of parts, one after the other
abbrev pub kinds_of_parts : List Module → ℕ → List Part → Option (List LeafKind)
kinds_of_parts modules depth [] = Some []
kinds_of_parts modules depth (part ∷ parts) = do
  first ← kinds_of_part modules depth part
  rest ← kinds_of_parts modules depth parts
  Some (first ++ rest)

-- the modules are those of a store
abbrev pub IsOfStore : List Module → Type 0
IsOfStore modules = (published : List PublishedModule) × IsStore published × (tables_in published ≡ modules)

-- the structs of a module that have key, where the module stands at a place
abbrev pub keyed_at : ℕ → Module → List Definition
keyed_at place m = map (λ i. record { place = place; index = i }) (keyed_indices m)

-- the kinds were put after those that were there; or there are none
abbrev pub PutsKinds : Option (List LeafKind) → Bool → List LeafKind → List LeafKind → Type 0
PutsKinds None there old new = there ≡ false
PutsKinds (Some kinds) there old new = (there ≡ true) × (new ≡ old ++ kinds)
