use Rattle.mv_edges.proofs.Common.{◌≡◌, ◌++◌, ◌∷◌, ◌∙◌, [], ◌+◌, ap, append-nil, sym, take, drop, get_or, flat_map, subst}
use Rattle.mv_ways.specs.Behind.{a_tail, edges_from, tail_edges}
use Rattle.mv_ways.proofs.ProvenanceGraph.Derived.{led_more, led_rest}
use Rattle.mv_ways.proofs.provenances.ProvenanceGraph.tell_stated.Goals as goal

pub returns-then-not-tell_origin : goal.returns-then-not-tell_origin
returns-then-not-tell_origin g c = λ fs.
    let sources = c.args.self.now.sources in
    let origins = c.args.origins.now in
    let i = c.loop-origin.origin-index in
    let d = c.origin-item.result in
    let t = a_tail (record { path = c.args.path.now; is_open = c.args.is_open }) in
    let f = edges_from sources c.args.to (t ∷ []) in
    let one = tail_edges sources c.args.to d t in
    let same : one ≡ f (get_or origins i d) = ap (λ l. tail_edges sources c.args.to l t) c.origin-item.is ∙ sym (append-nil (tail_edges sources c.args.to (get_or origins i d) t)) in
    let gs = flat_map f (drop (i + 1) origins) ++ fs in
    let stop = rw c.if-not-tell_origin.true at c.tell_origin.ensures in
    subst (λ es. g.S.Sink.after c.args.sink.now es c.tell_origin.new.sink) (ap (λ x. flat_map f (take i origins) ++ (x ++ gs)) same ∙ led_rest f origins i d fs c.loop-origin-test.true)
    (g.met.S.Sink.joined c.args.sink.now c.loop-origin.sink c.tell_origin.new.sink (flat_map f (take i origins)) (one ++ gs) c.loop-origin.invariant (stop gs))

pub loop-origin-preserved : goal.loop-origin-preserved
loop-origin-preserved g c =
    let sources = c.args.self.now.sources in
    let origins = c.args.origins.now in
    let i = c.loop-origin.origin-index in
    let d = c.origin-item.result in
    let t = a_tail (record { path = c.args.path.now; is_open = c.args.is_open }) in
    let f = edges_from sources c.args.to (t ∷ []) in
    let one = tail_edges sources c.args.to d t in
    let same : one ≡ f (get_or origins i d) = ap (λ l. tail_edges sources c.args.to l t) c.origin-item.is ∙ sym (append-nil (tail_edges sources c.args.to (get_or origins i d) t)) in
    let on = rw c.if-not-tell_origin.false at c.tell_origin.ensures in
    subst (λ es. g.S.Sink.after c.args.sink.now es c.tell_origin.new.sink) (ap (λ x. flat_map f (take i origins) ++ x) same ∙ sym (led_more f origins i d c.loop-origin-test.true))
    (g.met.S.Sink.joined c.args.sink.now c.loop-origin.sink c.tell_origin.new.sink (flat_map f (take i origins)) one c.loop-origin.invariant on)
