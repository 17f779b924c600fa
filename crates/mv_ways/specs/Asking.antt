-- What a question notes of provenances.
-- A question goes over the provenances once, first to last, and notes of each which labels behind it pass (why so: decision 52).
--   lets_pass position noted behind                     what is noted lets a label pass
--   larger a b                                          what lets pass what one of two does
--   extended_passing, opened_passing                    what is noted of a field, and of what a function returned
--   origins_pass sources from position behind origins   some origin comes from these nodes, and agrees
--   SaysOf, AreNoted                                    what is noted is right of some origins, and of the first provenances
--   lets_pass_here noted                                something passes with nothing behind it
-- is_asked and comes_from are parts of these.
use Rattle.std.specs.Prelude.{◌≡◌, ℕ, ◌<◌, ◌==◌, if◌then◌else◌, Bool, true, false, ◌&&◌, List, Option, Some, None, slice_index_or}
use Rattle.std.specs.List.{list_any}
use Rattle.std.specs.Option.{option_map_or}
use Rattle.mv_move_types.specs.declared.borrow.Node.{Node}
use Rattle.mv_edges.specs.Edges.{Label}
use Rattle.mv_edges.specs.Edges.{agrees_if, composed}
use Rattle.mv_ways.specs.Origins.{Origin}
use Rattle.mv_ways.specs.Provenances.{ProvenanceGraph, all_origins, origins_at, source_at}
use Rattle.mv_ways.specs.declared.provenances.questions.Passing.{Passing}
use Rattle.mv_ways.specs.declared.provenances.questions.Passing.TheVariants.{Never, Here, Always}

-- whether what is noted lets a label behind it pass
abbrev pub lets_pass : Option ℕ → Passing → Label → Bool
lets_pass position Never behind = false
lets_pass position Here behind = agrees_if position behind
lets_pass position Always behind = true

-- the larger of two
abbrev pub larger : Passing → Passing → Passing
larger Never b = b
larger Here Never = Here
larger Here Here = Here
larger Here Always = Always
larger Always b = Always

-- whether a position is the one that is asked for, if one is
abbrev pub is_asked : Option ℕ → ℕ → Bool
is_asked None f = true
is_asked (Some g) f = f == g

-- what leads to a field of what this leads to
abbrev pub extended_passing : Option ℕ → ℕ → Passing → Passing
extended_passing position f Never = Never
extended_passing position f Here = if is_asked position f then Always else Never
extended_passing position f Always = Always

-- what leads to anything below what this leads to
abbrev pub opened_passing : Passing → Passing
opened_passing Never = Never
opened_passing Here = Always
opened_passing Always = Always

-- whether a source is still there, and one of these
abbrev pub comes_from : List (Option Node) → (Node → Bool) → ℕ → Bool
comes_from sources from source = option_map_or from (source_at sources source) false

-- whether some origin with a label behind it comes from one of these, and agrees
abbrev pub origins_pass : List (Option Node) → (Node → Bool) → Option ℕ → Label → List Origin → Bool
origins_pass sources from position behind origins =
    list_any (λ (l : Origin). comes_from sources from l.source && agrees_if position (composed l.label behind)) origins

-- what is noted says which labels behind some origins pass
abbrev pub SaysOf : List (Option Node) → (Node → Bool) → Option ℕ → Passing → List Origin → Type 0
SaysOf sources from position noted origins = (behind : Label) → lets_pass position noted behind ≡ origins_pass sources from position behind origins

-- it does for the first provenances
abbrev pub AreNoted : ProvenanceGraph → (Node → Bool) → Option ℕ → ℕ → List Passing → Type 0
AreNoted g from position count noted =
    (k : ℕ) (d : Passing) → k < count → SaysOf g.sources from position (slice_index_or noted k d) (origins_at (all_origins g.provenances) k)

-- whether something passes with nothing behind it
abbrev pub lets_pass_here : Passing → Bool
lets_pass_here Never = false
lets_pass_here Here = true
lets_pass_here Always = true
