use Rattle.mv_edges.proofs.Common.{◌<◌, ℕ, false, refl, subst, sym, true}
use Rattle.mv_ways.specs.Derived.{derived_edges}
use Rattle.mv_ways.specs.Going.{AreLeading, IsReturned}
use Rattle.mv_ways.specs.Telling.{given_edges}
use Rattle.mv_ways.specs.Told.{IsTold}
use Rattle.mv_ways.specs.Provenances.{all_origins, reference_edges}
use Rattle.mv_ways.proofs.ProvenanceGraph.Telling.{told_all, told_no_more, told_rest}
use Rattle.mv_ways.proofs.provenances.ProvenanceGraph.tell_reference.Goals as goal

pub returns-then-tell_given : goal.returns-then-tell_given
returns-then-tell_given g c =
    let it = c.args.self.now in
    let r = c.args.reference in
    let marks = c.mark_given_to-end.new.marks in
    let end = c.mark_given_to-end.result in
    let within = c.mark_given_to-end.ensures.within in
    let before : (k : ℕ) → IsReturned it.provenances r.provenance 0 k → k < end = λ k given. c.mark_given_to-end.ensures.before k (rw c.provenance.ensures given) in
    let leading : 0 < end → AreLeading it.provenances r.provenance marks = λ some. subst (λ w. AreLeading it.provenances w marks) c.provenance.ensures (c.mark_given_to-end.ensures.leading some) in
    let node = c.node-then-tell_given.result in
    let provenance = c.provenance-then-tell_given.result in
    told_rest g.S.Sink.after g.met.S.Sink.joined g.met.S.Sink.alike c.args.sink.now c.tell_given.new.sink c.tell_derived.new.sink
    (given_edges (derived_edges it c.node.result true) marks end) (derived_edges it node false provenance) (reference_edges it.sources (all_origins it.provenances) r) c.tell_derived.result
    (told_all it r marks end c.requires.earlier c.requires.inside within before leading c.node.result node provenance c.node.ensures c.node-then-tell_given.ensures c.provenance-then-tell_given.ensures)
    (rw c.if-tell_given.true at c.tell_given.ensures) c.tell_derived.ensures

pub returns-else-tell_given : goal.returns-else-tell_given
returns-else-tell_given g c =
    let it = c.args.self.now in
    let r = c.args.reference in
    let marks = c.mark_given_to-end.new.marks in
    let end = c.mark_given_to-end.result in
    let within = c.mark_given_to-end.ensures.within in
    let before : (k : ℕ) → IsReturned it.provenances r.provenance 0 k → k < end = λ k given. c.mark_given_to-end.ensures.before k (rw c.provenance.ensures given) in
    let leading : 0 < end → AreLeading it.provenances r.provenance marks = λ some. subst (λ w. AreLeading it.provenances w marks) c.provenance.ensures (c.mark_given_to-end.ensures.leading some) in
    subst (λ more. IsTold g.S.Sink.after c.args.sink.now (reference_edges it.sources (all_origins it.provenances) r) more c.tell_given.new.sink) (sym c.if-tell_given.false)
    (told_no_more g.S.Sink.after g.met.S.Sink.joined g.met.S.Sink.alike c.args.sink.now c.tell_given.new.sink
    (given_edges (derived_edges it c.node.result true) marks end) (derived_edges it r.node false r.provenance) (reference_edges it.sources (all_origins it.provenances) r)
    (told_all it r marks end c.requires.earlier c.requires.inside within before leading c.node.result r.node r.provenance c.node.ensures refl refl)
    (rw c.if-tell_given.false at c.tell_given.ensures))
