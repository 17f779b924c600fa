use Rattle.mv_edges.proofs.Common.{◌≡◌, ◌<◌, ◌∙◌, ◌∷◌, [], Some, None, ap, arith, edges_leq, get_or, slice_get, subst, sym, true, false}
use Rattle.std.specs.Prelude.{IfSome}
use Rattle.mv_ways.specs.Behind.{edges_with}
use Rattle.mv_ways.specs.Covered.{open_tail}
use Rattle.mv_ways.specs.Derived.{begun_open, is_field, is_passed}
use Rattle.mv_ways.specs.Going.{original}
use Rattle.mv_ways.specs.declared.provenances.under.leading.Mark.TheVariants.{Nothing}
use Rattle.mv_ways.proofs.ProvenanceGraph.Derived.{original_below}
use Rattle.mv_ways.proofs.ProvenanceGraph.Noted.{goes_below_at, provenance_at}
use Rattle.mv_ways.proofs.ProvenanceGraph.Under.{copy_not_passed, over_passed, own_passed}
use Rattle.mv_ways.proofs.provenances.ProvenanceGraph.is_provenance_passed.Goals as goal

pub returns-in-Stated-clause-value : goal.returns-in-Stated-clause-value
returns-in-Stated-clause-value c =
    let g = c.args.self.now in
    let to = c.args.to in
    let others = c.args.others.now in
    let place = c.args.place in
    let provenance = c.index-provenances-place.result in
    let there : slice_get g.provenances place ≡ Some provenance = provenance_at g.provenances place provenance c.requires.inside (c.index-provenances-place.is ∙ ap (λ ws. get_or ws place provenance) c.provenances.ensures.value) in
    let none : original provenance ≡ None = ap original c.in-Stated.is in
    c.are_origins_covered.ensures.value ∙ ap (λ ls. edges_leq (edges_with g.sources to ls (open_tail [] ∷ [])) others) c.deref.ensures.value
    ∙ ap (λ w. edges_leq (begun_open g to w) others) (sym c.in-Stated.is) ∙ sym (own_passed g to others c.provenances.ensures.earlier place provenance there none)

pub returns-in_default-derived_from-clause-value : goal.returns-in_default-derived_from-clause-value
returns-in_default-derived_from-clause-value c =
    let g = c.args.self.now in
    let place = c.args.place in
    let provenance = c.index-provenances-place.result in
    let there : slice_get g.provenances place ≡ Some provenance = provenance_at g.provenances place provenance c.requires.inside (c.index-provenances-place.is ∙ ap (λ ws. get_or ws place provenance) c.provenances.ensures.value) in
    let none : original provenance ≡ None = sym c.derived_from.ensures ∙ c.in_default-derived_from.is in
    c.is_begun_under.ensures ∙ sym (own_passed g c.args.to c.args.others.now c.provenances.ensures.earlier place provenance there none)

pub bounds-marks-over : goal.bounds-marks-over
bounds-marks-over c =
    let g = c.args.self.now in
    let place = c.args.place in
    let provenance = c.index-provenances-place.result in
    let at = c.index-provenances-place.is ∙ ap (λ ws. get_or ws place provenance) c.provenances.ensures.value in
    let over : original provenance ≡ Some c.in-Some.over = sym c.derived_from.ensures ∙ c.in-Some.is in
    let low : c.in-Some.over < place = subst (λ o. IfSome o (λ k. k < place)) over (original_below place provenance (goes_below_at g.provenances place provenance c.provenances.ensures.earlier c.requires.inside at)) in
    omega (arith, low, c.requires.inside, c.requires.marks)

pub returns-then-is_passed-clause-value : goal.returns-then-is_passed-clause-value
returns-then-is_passed-clause-value c =
    let g = c.args.self.now in
    let place = c.args.place in
    let provenance = c.index-provenances-place.result in
    let there : slice_get g.provenances place ≡ Some provenance = provenance_at g.provenances place provenance c.requires.inside (c.index-provenances-place.is ∙ ap (λ ws. get_or ws place provenance) c.provenances.ensures.value) in
    let over : original provenance ≡ Some c.in-Some.over = sym c.derived_from.ensures ∙ c.in-Some.is in
    let passed : is_passed g c.args.to c.args.others.now c.in-Some.over ≡ true = sym (c.requires.before c.in-Some.over Nothing provenance there over) ∙ (sym c.is_passed.ensures ∙ c.if-is_passed.true) in
    c.is_begun_under-then-is_passed.ensures ∙ sym (over_passed g c.args.to c.args.others.now c.provenances.ensures.earlier place provenance c.in-Some.over there over passed)

pub returns-else-is_field-clause-value : goal.returns-else-is_field-clause-value
returns-else-is_field-clause-value c =
    let g = c.args.self.now in
    let place = c.args.place in
    let provenance = c.index-provenances-place.result in
    let there : slice_get g.provenances place ≡ Some provenance = provenance_at g.provenances place provenance c.requires.inside (c.index-provenances-place.is ∙ ap (λ ws. get_or ws place provenance) c.provenances.ensures.value) in
    let over : original provenance ≡ Some c.in-Some.over = sym c.derived_from.ensures ∙ c.in-Some.is in
    let passed : is_passed g c.args.to c.args.others.now c.in-Some.over ≡ false = sym (c.requires.before c.in-Some.over Nothing provenance there over) ∙ (sym c.is_passed.ensures ∙ c.if-is_passed.false) in
    let field : is_field provenance ≡ false = sym c.is_field.ensures ∙ c.if-is_field.false in
    c.if-is_field.false ∙ sym (copy_not_passed g c.args.to c.args.others.now c.provenances.ensures.earlier place provenance c.in-Some.over there over field passed)
