-- The first of some edges.
--   is_short e                          a label is within the limit of a certificate
--   is_behind last e                    an edge comes behind the last one, if there is one
--   is_before_first first e             it comes before the first one, if there is one
--   first_behind last first es          the first of those behind the last one, and of one that there was
-- Lemmas for the laws of a sink follow.
use Rattle.std.proofs.Common.{◌≡◌, ◌∙◌, ap, sym, refl, Bool, true, false, cond, List, [], ◌∷◌, ◌++◌, append_assoc, filter, length, Option, Some, None, slice_get}
use Rattle.std.specs.Prelude.{nat_le}
use Rattle.std.specs.List.{list_all}
use Rattle.std.specs.Option.{option_map_or}
use Rattle.std.proofs.lemmas.Bool.{and_parts}
use Rattle.std.proofs.lemmas.List.Elements.{filter-append}
use Rattle.mv_move_types.specs.Limits.{most_positions}
use Rattle.mv_edges.proofs.Common.{list_all-append}
use Rattle.mv_edges.proofs.AsSets.{all-sorted, sorted-append, sorted-filter}
use Rattle.mv_edges.proofs.Sorting.{sorted-append_swap}
use Rattle.mv_edges.specs.Ascending.{edge_before}
use Rattle.mv_edges.specs.Edges.{Edge}
use Rattle.mv_edges.specs.Sorted.{inserted, sorted}

-- whether a label has at most 8 positions
abbrev pub is_short : Edge → Bool
is_short e = nat_le (length e.label.path) most_positions

-- whether an edge comes behind the last one, if there is one
abbrev pub is_behind : Option Edge → Edge → Bool
is_behind last e = option_map_or (λ l. edge_before l e) last true

-- whether it comes before the first one, if there is one
abbrev pub is_before_first : Option Edge → Edge → Bool
is_before_first first e = option_map_or (λ f. edge_before e f) first true

-- an edge, if there is one
abbrev pub any_of : Option Edge → List Edge
any_of o = option_map_or (λ e. e ∷ []) o []

-- the first of those behind the last one, and of one that there was
abbrev pub first_behind : Option Edge → Option Edge → List Edge → Option Edge
first_behind last first es = slice_get (sorted (filter (is_behind last) es ++ any_of first)) 0

-- ---- laws

abbrev First : List Edge → Option Edge
First es = slice_get (sorted es) 0

abbrev lesser : Edge → Option Edge → Option Edge
lesser e o = option_map_or (λ f. Some (cond (edge_before e f) e f)) o (Some e)

first_inserted : (e : Edge) (ws : List Edge) → slice_get (inserted e ws) 0 ≡ lesser e (slice_get ws 0)
first_inserted e [] = refl
first_inserted e (x ∷ ws) = by_order (edge_before e x) (edge_before x e)
  where
    by_order : (a b : Bool) → slice_get (cond a (e ∷ x ∷ ws) (cond b (x ∷ inserted e ws) (x ∷ ws))) 0 ≡ Some (cond a e x)
    by_order true b = refl
    by_order false true = refl
    by_order false false = refl

first_of_more : (ys R S : List Edge) → First R ≡ First S → First (ys ++ R) ≡ First (ys ++ S)
first_of_more [] R S h = h
first_of_more (y ∷ ys) R S h =
    first_inserted y (sorted (ys ++ R)) ∙ ap (lesser y) (first_of_more ys R S h) ∙ sym (first_inserted y (sorted (ys ++ S)))

first_any : (o : Option Edge) → First (any_of o) ≡ o
first_any None = refl
first_any (Some e) = refl

pub next_none : (last first : Option Edge) → first ≡ first_behind last first []
next_none last first = sym (first_any first)

pub next_joined : (last its first second third : Option Edge) (es fs : List Edge) → its ≡ last → (list_all is_short es ≡ true → second ≡ first_behind last first es)
    → (list_all is_short fs ≡ true → third ≡ first_behind its second fs) → list_all is_short (es ++ fs) ≡ true → third ≡ first_behind last first (es ++ fs)
next_joined last its first second third es fs same one two h =
    let parts = and_parts (list_all is_short es) (list_all is_short fs) (sym (list_all-append is_short es fs) ∙ h) in
    let before = filter (is_behind last) es in
    let after = filter (is_behind last) fs in
    let old = any_of first in
    two parts.1
    ∙ ap (λ o. first_behind o second fs) same
    ∙ first_of_more after (any_of second) (before ++ old) (first_any second ∙ one parts.0)
    ∙ ap (λ es. slice_get es 0) (ap sorted (sym (append_assoc after before old)) ∙ sorted-append (after ++ before) (before ++ after) old old (sorted-append_swap after before) refl)
    ∙ ap (λ xs. First (xs ++ old)) (sym (filter-append (is_behind last) es fs))

pub next_alike : (last first new : Option Edge) (es fs : List Edge) → sorted es ≡ sorted fs → (list_all is_short es ≡ true → new ≡ first_behind last first es)
    → list_all is_short fs ≡ true → new ≡ first_behind last first fs
next_alike last first new es fs same it h =
    let test = is_behind last in
    it (sym (all-sorted is_short es) ∙ ap (list_all is_short) same ∙ all-sorted is_short fs ∙ h)
    ∙ ap (λ xs. slice_get xs 0) (sorted-append (filter test es) (filter test fs) (any_of first) (any_of first) (sym (sorted-filter test es) ∙ ap (filter test) same ∙ sorted-filter test fs) refl)
