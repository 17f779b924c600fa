use Rattle.mv_linker.proofs.Common.{[], ℕ, ◌++◌, ◌<◌, ◌∙◌, ◌∷◌, ◌≡◌, Global, List, Option, Some, Vec, ap, arith, false, get_or, length, map, option_map, refl, slice_get, sym, take, length-map}
use Rattle.mv_linker.proofs.Common.{map-append, take_more, MatchOption-at_none, MatchOption-at_some, get_or_from_slice_get, slice_get-map, slice_get_read, list_all, is_some, Size}
use Rattle.mv_bound_rules.proofs.Entries.{all_pass_not}
use Rattle.mv_linker.proofs.rules.sizes.known_rows.Goals as goal

abbrev items : List (Vec (Option Size) Global) → List (List (Option Size))
items rows = map (λ (r : Vec (Option Size) Global). r.items) rows

abbrev known : List Size → List (Option Size)
known sizes = map (λ (s : Size). Some s) sizes

-- the row at an index
row_here : (rows : List (Vec (Option Size) Global)) (i : ℕ) (r : Vec (Option Size) Global) → i < length rows → r ≡ get_or rows i r → slice_get (items rows) i ≡ Some r.items
row_here rows i r low is =
    slice_get-map (λ (r : Vec (Option Size) Global). r.items) rows i ∙ ap (option_map (λ (r : Vec (Option Size) Global). r.items)) (slice_get_read rows (length rows) i r refl low is)

pub returns-in-None : goal.returns-in-None
returns-in-None c =
    let rows = c.args.rows.now in
    let i = c.loop-row.row-index in
    let row = c.row-item.result in
    let unknown : list_all is_some c.deref.result.now ≡ false =
    MatchOption-at_none (list_all is_some c.deref.result.now ≡ false) (λ (v : Vec Size Global). c.deref.result.now ≡ known v.items) c.in-None.is c.in_ok-sizes.ensures in
    all_pass_not (list_all is_some) (items rows) i row.items (sym (row_here rows i row c.loop-row-test.true c.row-item.is)) (ap (list_all is_some) (sym c.deref.ensures.value) ∙ unknown)

pub loop-row-preserved : goal.loop-row-preserved
loop-row-preserved c =
    let rows = c.args.rows.now in
    let i = c.loop-row.row-index in
    let row = c.row-item.result in
    let sizes = c.in-Some.sizes in
    let all : c.deref.result.now ≡ known sizes.items =
    MatchOption-at_some (list_all is_some c.deref.result.now ≡ false) (λ (v : Vec Size Global). c.deref.result.now ≡ known v.items) sizes c.in-Some.is c.in_ok-sizes.ensures in
    let low : i < length (items rows) = omega (arith, c.loop-row-test.true, length-map rows (λ (r : Vec (Option Size) Global). r.items)) in
    take_more (items rows) i row.items low
    ∙ ap (λ (r : List (Option Size)). take i (items rows) ++ r ∷ []) (get_or_from_slice_get (items rows) i row.items row.items (row_here rows i row c.loop-row-test.true c.row-item.is))
    ∙ ap (λ (l : List (List (Option Size))). l ++ row.items ∷ []) c.loop-row.invariant
    ∙ ap (λ (r : List (Option Size)). map (λ (r : Vec Size Global). known r.items) c.loop-row.known.items ++ r ∷ []) (sym c.deref.ensures.value ∙ all)
    ∙ sym (map-append (λ (r : Vec Size Global). known r.items) c.loop-row.known.items (sizes ∷ []))
    ∙ sym (ap (map (λ (r : Vec Size Global). known r.items)) c.in_ok-push-in-Some.ensures.items)
