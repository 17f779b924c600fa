use Rattle.mv_edges.proofs.Common.{◌≡◌, ◌++◌, ◌+◌, ◌<◌, ◌∙◌, ap, arith, drop, flat_map, get_or, length, refl, sorted, subst, sym, take, false, Slot}
use Rattle.mv_ways.specs.Telling.{edges_at}
use Rattle.mv_ways.specs.declared.provenances.Reference.{Reference}
use Rattle.mv_ways.proofs.ProvenanceGraph.Telling.{led_more, led_rest, told_done, told_no_more, told_rest}
use Rattle.mv_ways.proofs.provenances.ProvenanceGraph.tell_references.Goals as goal

pub returns-then-not-tell_at : goal.returns-then-not-tell_at
returns-then-not-tell_at g c =
    let it = c.args.self.now in
    let f = edges_at (g.N.NodeSet.test c.args.nodes.now) it in
    let i = c.loop-reference.reference-index in
    let d : Reference = record { node = Slot 0; provenance = 0 } in
    let same = c.references-reference-items.ensures.value in
    let long = ap length same in
    let test = c.loop-reference-test.true in
    let inside : i < length it.references = omega (arith, long, test) in
    let r = get_or c.references-reference-items.result.now i d in
    let one : f r ≡ f (get_or it.references i d) = ap (λ rs. f (get_or rs i d)) same in
    let before = flat_map f (take i it.references) in
    let rest = flat_map f (drop (i + 1) it.references) in
    told_done g.S.Sink.after g.met.S.Sink.joined g.met.S.Sink.alike c.args.sink.now c.tell_at.new.sink (flat_map f it.references) false
    (told_no_more g.S.Sink.after g.met.S.Sink.joined g.met.S.Sink.alike c.args.sink.now c.tell_at.new.sink (before ++ f r) rest (flat_map f it.references)
    (ap (λ es. sorted ((before ++ es) ++ rest)) one ∙ ap sorted (led_rest f it.references i d inside))
    (told_rest g.S.Sink.after g.met.S.Sink.joined g.met.S.Sink.alike c.args.sink.now c.loop-reference.sink c.tell_at.new.sink before (f r) (before ++ f r) false refl c.loop-reference.invariant.2
    (rw c.if-not-tell_at.true at c.tell_at.ensures)))

pub loop-reference-preserved : goal.loop-reference-preserved
loop-reference-preserved g c =
    let it = c.args.self.now in
    let f = edges_at (g.N.NodeSet.test c.args.nodes.now) it in
    let i = c.loop-reference.reference-index in
    let d : Reference = record { node = Slot 0; provenance = 0 } in
    let same = c.references-reference-items.ensures.value in
    let long = ap length same in
    let test = c.loop-reference-test.true in
    let inside : i < length it.references = omega (arith, long, test) in
    let r = get_or c.references-reference-items.result.now i d in
    let one : f r ≡ f (get_or it.references i d) = ap (λ rs. f (get_or rs i d)) same in
    let before = flat_map f (take i it.references) in
    let on = rw c.if-not-tell_at.false at c.tell_at.ensures in (
      omega (arith, c.loop-reference.invariant.0),
      omega (arith, c.loop-reference.invariant.1),
      subst (λ es. g.S.Sink.after c.args.sink.now es c.tell_at.new.sink) (ap (λ es. before ++ es) one ∙ sym (led_more f it.references i d inside))
          (g.met.S.Sink.joined c.args.sink.now c.loop-reference.sink c.tell_at.new.sink before (f r) c.loop-reference.invariant.2 on),
    )
