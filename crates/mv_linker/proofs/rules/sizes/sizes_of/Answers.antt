use Rattle.mv_linker.proofs.Common.{[], ◌∙◌, ◌∷◌, ◌≡◌, Global, List, Option, Some, Vec, ap, false, map, refl, sym, inl, inr, rows_after, offered, Defined, MatchOption-at_none, MatchOption-at_some, list_all, is_some, Size}
use Rattle.std.proofs.lemmas.Bool.{false≢true}
use Rattle.mv_linker.proofs.StructSizes.Rounds.{sizes_known, not_known}
use Rattle.mv_linker.proofs.rules.sizes.sizes_of.Goals as goal

abbrev items : List (Vec (Option Size) Global) → List (List (Option Size))
items rows = map (λ (r : Vec (Option Size) Global). r.items) rows

abbrev known : List Size → List (Option Size)
known sizes = map (λ (s : Size). Some s) sizes

known-map : (rows : List (Vec Size Global)) → map (λ (r : Vec Size Global). known r.items) rows ≡ map known (map (λ (r : Vec Size Global). r.items) rows)
known-map [] = refl
known-map (r ∷ rows) = ap (λ l. known r.items ∷ l) (known-map rows)

pub returns-in-Some-clause-ok : goal.returns-in-Some-clause-ok
returns-in-Some-clause-ok c = λ modules a.
    let rows = c.deref.result.now in
    let sizes = c.in-Some.sizes in
    let all : items rows ≡ map (λ (r : Vec Size Global). known r.items) sizes.items =
    MatchOption-at_some (list_all (list_all is_some) (items rows) ≡ false) (λ (v : Vec (Vec Size Global) Global). items rows ≡ map (λ (r : Vec Size Global). known r.items) v.items) sizes c.in-Some.is c.in_ok-sizes.ensures in
    let final = c.in_ok-rows.ensures in
    sizes_known modules _ _ a final.rounds final.some final.few (map (λ (r : Vec Size Global). r.items) sizes.items)
    (sym (ap items c.deref.ensures.value ∙ final.after) ∙ all ∙ known-map sizes.items)

pub returns-clause-refused : goal.returns-clause-refused
returns-clause-refused c = λ modules a.
    let rows = c.deref.result.now in
    let unknown : list_all (list_all is_some) (items rows) ≡ false =
    MatchOption-at_none (list_all (list_all is_some) (items rows) ≡ false) (λ (v : Vec (Vec Size Global) Global). items rows ≡ map (λ (r : Vec Size Global). known r.items) v.items) c.in-None.is c.in_ok-sizes.ensures in
    let final = c.in_ok-rows.ensures in
    let bundle = offered c.args.bundle.now in
    let handles = map (λ (d : Vec Defined Global). d.items) c.args.defined.now in
    let value : items rows ≡ items c.in_ok-rows.rows.items = ap items c.deref.ensures.value in
    elim final.ends [
      | inl all ↦ (refl, not_known modules _ _ a (items rows) (value ∙ final.after ∙ ap (λ k. rows_after k bundle handles) all) unknown)
      | inr known ↦ absurd (false≢true (sym unknown ∙ ap (list_all (list_all is_some)) value ∙ known))
    ]
