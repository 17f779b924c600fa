use Rattle.mv_edges.proofs.Common.{◌≡◌, ◌++◌, ◌+◌, ◌∙◌, ap, arith, get_or, refl, sorted, subst, sym, false, true}
use Rattle.mv_ways.specs.Derived.{derived_edges}
use Rattle.mv_ways.specs.Telling.{given_edges, marked_edges}
use Rattle.mv_ways.proofs.ProvenanceGraph.Telling.{given_more, given_rest, told_no_more, told_rest}
use Rattle.mv_ways.specs.declared.provenances.under.leading.Mark.TheVariants.{Nothing}
use Rattle.mv_ways.proofs.provenances.ProvenanceGraph.tell_given.Goals as goal

pub returns-then-not-tell_marked : goal.returns-then-not-tell_marked
returns-then-not-tell_marked g c =
    let f = derived_edges c.args.self.now c.args.to true in
    let marks = c.args.marks.now in
    let place = c.loop-place.place in
    let test = c.loop-place-test.true in
    let one = marked_edges f (get_or marks place Nothing) place in
    let rest = given_rest f marks (place + 1) c.args.end (omega (arith, test)) in
    let whole : (given_edges f marks place ++ one) ++ rest.0 ≡ given_edges f marks c.args.end = ap (λ es. es ++ rest.0) (sym (given_more f marks place)) ∙ sym rest.1 in
    told_no_more g.S.Sink.after g.met.S.Sink.joined g.met.S.Sink.alike c.args.sink.now c.tell_marked.new.sink (given_edges f marks place ++ one) rest.0 (given_edges f marks c.args.end) (ap sorted whole)
    (told_rest g.S.Sink.after g.met.S.Sink.joined g.met.S.Sink.alike c.args.sink.now c.loop-place.sink c.tell_marked.new.sink (given_edges f marks place) one (given_edges f marks place ++ one) false refl c.loop-place.invariant.1
    (rw c.if-not-tell_marked.true at c.tell_marked.ensures))

pub loop-place-preserved : goal.loop-place-preserved
loop-place-preserved g c =
    let f = derived_edges c.args.self.now c.args.to true in
    let marks = c.args.marks.now in
    let place = c.loop-place.place in
    let one = marked_edges f (get_or marks place Nothing) place in
    let on = rw c.if-not-tell_marked.false at c.tell_marked.ensures in (
      omega (arith, c.loop-place.invariant.0),
      subst (λ es. g.S.Sink.after c.args.sink.now es c.tell_marked.new.sink) (sym (given_more f marks place))
          (g.met.S.Sink.joined c.args.sink.now c.loop-place.sink c.tell_marked.new.sink (given_edges f marks place) one c.loop-place.invariant.1 on),
    )
