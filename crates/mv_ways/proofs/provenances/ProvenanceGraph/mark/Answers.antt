use Rattle.mv_edges.proofs.Common.{◌<◌, ◌+◌, ◌-◌, ◌==◌, ◌||◌, ◌∙◌, ◌≡◌, ap, arith, get_or, length, refl, set, slice_get-get_or, subst, sym}
use Rattle.std.proofs.Math.ListN.{length-set}
use Rattle.mv_ways.specs.declared.provenances.under.leading.Mark.TheVariants.{Nothing, Leads}
use Rattle.mv_ways.specs.Going.{does_lead, was_given}
use Rattle.mv_ways.proofs.ProvenanceGraph.Terms.{AreMarked}
use Rattle.mv_ways.proofs.ProvenanceGraph.Leading.{marked_all, marked_first, marked_kept, marked_over}
use Rattle.mv_ways.proofs.ProvenanceGraph.Noted.{goes_below_at, provenance_at}
use Rattle.mv_ways.proofs.ProvenanceGraph.Tables.{eqb_swap, goes_below_more, kept_mark, read_mark}
use Rattle.mv_ways.proofs.ProvenanceGraph.Under.{some_provenance}
use Rattle.mv_ways.proofs.provenances.ProvenanceGraph.mark.Goals as goal

pub loop-place-init : goal.loop-place-init
loop-place-init c =
    let provenances = c.args.self.now.provenances in
    let last = c.args.last in
    let marks = c.unmark.new.marks in
    let long : length marks ≡ length provenances = omega arith in
    let room : last < length marks = omega (arith, long) in
    let kept : length (set marks last Leads) ≡ length provenances = length-set marks last Leads ∙ long in
    record {
      room = kept;
      within = omega arith;
      marked = marked_first provenances last c.requires.earlier (set marks last Leads) kept
          (λ k d inside. read_mark does_lead Leads refl marks last k d room ∙ ap (λ b. b || (last == k)) (c.unmark.ensures.leads k d (omega (arith, inside, kept))) ∙ eqb_swap last k)
          (λ k d inside. kept_mark was_given marks last k Leads d room (sym (c.unmark.ensures.given last d (omega (arith, room)))) ∙ c.unmark.ensures.given k d (omega (arith, inside, kept)));
    }

pub mark_over-requires : goal.mark_over-requires
mark_over-requires c =
    let provenances = c.args.self.now.provenances in
    let provenance = c.index-provenances-place.result in
    let k = c.loop-place.place - 1 in
    let within = c.loop-place.invariant.within in
    let some = c.loop-place-test.true in
    let last = c.requires.inside in
    let inside : k < length provenances = omega (arith, within, some, last) in
    let read : provenance ≡ get_or provenances k provenance = c.index-provenances-place.is ∙ ap (λ ws. get_or ws k provenance) c.provenances.ensures.value in
    let room = c.loop-place.invariant.room in
    goes_below_more k (length c.loop-place.marks) provenance (omega (arith, inside, room)) (goes_below_at provenances k provenance c.requires.earlier inside read)

pub loop-place-preserved-then-leads : goal.loop-place-preserved-then-leads
loop-place-preserved-then-leads c =
    let provenances = c.args.self.now.provenances in
    let provenance = c.index-provenances-place.result in
    let k = c.loop-place.place - 1 in
    let within = c.loop-place.invariant.within in
    let some = c.loop-place-test.true in
    let last = c.requires.inside in
    let inside : k < length provenances = omega (arith, within, some, last) in
    let read : provenance ≡ get_or provenances k provenance = c.index-provenances-place.is ∙ ap (λ ws. get_or ws k provenance) c.provenances.ensures.value in
    let next : c.loop-place.place ≡ k + 1 = omega (arith, some) in
    let marked = subst (λ n. AreMarked provenances c.args.last n c.loop-place.marks) next c.loop-place.invariant.marked in
    record {
      room = omega arith;
      within = omega (arith, within);
      marked = marked_over provenances c.args.last c.requires.earlier k provenance (provenance_at provenances k provenance inside read) c.loop-place.marks c.mark_over.new.marks Nothing inside
          c.loop-place.invariant.room (sym c.leads.ensures ∙ c.if-leads.true) c.mark_over.ensures.leads c.mark_over.ensures.given marked;
    }

pub loop-place-preserved : goal.loop-place-preserved
loop-place-preserved c =
    let provenances = c.args.self.now.provenances in
    let k = c.loop-place.place - 1 in
    let within = c.loop-place.invariant.within in
    let some = c.loop-place-test.true in
    let last = c.requires.inside in
    let inside : k < length provenances = omega (arith, within, some, last) in
    let next : c.loop-place.place ≡ k + 1 = omega (arith, some) in
    let marked = subst (λ n. AreMarked provenances c.args.last n c.loop-place.marks) next c.loop-place.invariant.marked in
    record {
      room = c.loop-place.invariant.room;
      within = omega (arith, within);
      marked = marked_kept provenances c.args.last c.requires.earlier k (get_or provenances k some_provenance) (slice_get-get_or provenances k some_provenance inside) c.loop-place.marks Nothing inside
          (sym c.leads.ensures ∙ c.if-leads.false) marked;
    }

pub returns : goal.returns
returns c =
    let end = c.loop-place-test.false in
    let none : c.loop-place.place ≡ 0 = omega (arith, end) in
    marked_all c.args.self.now.provenances c.args.last c.requires.earlier c.loop-place.marks (subst (λ n. AreMarked c.args.self.now.provenances c.args.last n c.loop-place.marks) none c.loop-place.invariant.marked)
