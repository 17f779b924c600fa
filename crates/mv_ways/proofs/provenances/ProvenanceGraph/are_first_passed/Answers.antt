use Rattle.mv_edges.proofs.Common.{◌≡◌, ◌<◌, ◌+◌, ◌∙◌, ℕ, Bool, ap, arith, get_or, length, refl, subst, sym, true, true≢false}
use Rattle.std.specs.Prelude.{◌≢◌, IfSome}
use Rattle.mv_ways.specs.Covered.{AreCovered}
use Rattle.mv_ways.specs.Derived.{is_passed}
use Rattle.mv_ways.specs.Going.{IsReturned, LeadsTo, does_lead, was_given}
use Rattle.mv_ways.specs.declared.provenances.under.leading.Mark.TheVariants.{Nothing}
use Rattle.std.proofs.lemmas.List.{get_or-set_other}
use Rattle.mv_ways.specs.Going.LeadsTo.{by_derived, by_given}
use Rattle.mv_ways.proofs.ProvenanceGraph.Covered.{none_noted}
use Rattle.mv_ways.proofs.ProvenanceGraph.Derived.{original_below}
use Rattle.mv_ways.proofs.ProvenanceGraph.Listing.{earlier_at}
use Rattle.mv_ways.proofs.ProvenanceGraph.Under.{given_more, noted_same, noted_set}
use Rattle.mv_ways.specs.Provenances.{goes_below}
use Rattle.mv_ways.proofs.provenances.ProvenanceGraph.are_first_passed.Goals as goal
use Rattle.mv_ways.proofs.provenances.ProvenanceGraph.are_first_passed.Goals.{then-leads+else-was_given, else-was_given-via-then-was_given+else-not-it, else-was_given-via-else-was_given, else-leads}

pub loop-place-init : goal.loop-place-init
loop-place-init c =
    let g = c.args.self.now in
    record {
      covered = none_noted g c.args.reference.node c.args.others.now 1024 c.provenances-provenances.ensures.few;
      marks = c.requires.marks;
      later = λ k d low. refl;
      room = c.requires.room;
      noted = λ k d below leads. absurd (omega (arith, below));
      given = λ k below is. absurd (omega (arith, below));
    }

pub is_provenance_passed-it-requires-clause-covered : goal.is_provenance_passed-it-requires-clause-covered
is_provenance_passed-it-requires-clause-covered c =
    subst (λ n. AreCovered c.args.self.now n c.args.others.now c.loop-place.covered) (sym c.node.ensures) c.loop-place.invariant.covered

pub is_provenance_passed-it-requires-clause-before : goal.is_provenance_passed-it-requires-clause-before
is_provenance_passed-it-requires-clause-before c = λ k d provenance at over.
    let g = c.args.self.now in
    let place = c.loop-place.place in
    let test = c.loop-place-test.true in
    let inside : place < length g.provenances = omega (arith, test, c.requires.within) in
    let here : LeadsTo g.provenances c.args.reference.provenance place = (c.requires.leading.leads place Nothing inside).0 (ap does_lead (sym (c.loop-place.invariant.later place Nothing (omega arith))) ∙ (sym c.leads.ensures ∙ c.if-leads.true)) in
    let below : goes_below place provenance ≡ true = let same : 0 + place ≡ place = omega arith in subst (λ j. goes_below j provenance ≡ true) same (earlier_at g.provenances 0 c.requires.earlier place provenance at) in
    let low : k < place = subst (λ o. IfSome o (λ j. j < place)) over (original_below place provenance below) in
    c.loop-place.invariant.noted k d low (by_derived (record { at = at; over = over }) here) ∙ ap (λ n. is_passed g n c.args.others.now k) (sym c.node.ensures)

pub loop-place-preserved : goal.loop-place-preserved
loop-place-preserved c =
    let g = c.args.self.now in
    let r = c.args.reference in
    let others = c.args.others.now in
    let place = c.loop-place.place in
    let test = c.loop-place-test.true in
    let inside : place < length g.provenances = omega (arith, test, c.requires.within) in
    let noted = c.loop-place.invariant.noted in
    let Passed : ℕ → Bool = is_passed g r.node others in
    let later = c.loop-place.invariant.later in
    let same : get_or c.args.marks.now place Nothing ≡ get_or c.loop-place.marks place Nothing = sym (later place Nothing (omega arith)) in
    elim c.if-leads.branch [
      | then-leads+else-was_given w ↦
          let room : place < length c.loop-place.marks = let long = c.loop-place.invariant.marks in omega (arith, inside, long) in
          let is : w.is_provenance_passed-it.result ≡ Passed place = w.is_provenance_passed-it.ensures.value ∙ ap (λ n. is_passed g n others place) w.node.ensures in
          let holds : IsReturned g.provenances r.provenance 0 place → Passed place ≡ true = λ given.
          elim w.else-was_given.branch [
            | else-was_given-via-then-was_given+else-not-it v ↦ sym is ∙ v.if-not-it.false
            | else-was_given-via-else-was_given v ↦ absurd (true≢false (sym ((c.requires.leading.returned place Nothing inside).1 given) ∙ (ap was_given same ∙ (sym w.was_given.ensures ∙ v.if-was_given.false))))
          ] in
          record {
            covered = rw w.covered-is (subst (λ n. AreCovered g n others w.is_provenance_passed-it.new.covered) w.node.ensures w.is_provenance_passed-it.ensures.covered);
            marks = omega (arith, c.if-leads.auto.marks, c.requires.marks);
            later = rw w.marks-is (λ k d low. let ne : k ≢ place = omega (arith, low) in get_or-set_other c.loop-place.marks place k w.asked.result d ne ∙ later k d (omega (arith, low)));
            room = omega (arith, c.if-leads.auto.room, c.requires.room);
            noted = rw w.marks-is (noted_set Passed (LeadsTo g.provenances r.provenance) c.loop-place.marks place noted w.asked.result room (w.asked.ensures ∙ is));
            given = given_more Passed (IsReturned g.provenances r.provenance 0) place holds c.loop-place.invariant.given;
          }
      | else-leads w ↦
          let no : LeadsTo g.provenances r.provenance place → ⊥ = λ leads. true≢false (sym ((c.requires.leading.leads place Nothing inside).1 leads) ∙ (ap does_lead same ∙ (sym c.leads.ensures ∙ w.if-leads.false))) in
          record {
            covered = rw w.covered-is c.loop-place.invariant.covered;
            marks = omega (arith, c.if-leads.auto.marks, c.requires.marks);
            later = rw w.marks-is (λ k d low. later k d (omega (arith, low)));
            room = omega (arith, c.if-leads.auto.room, c.requires.room);
            noted = rw w.marks-is (noted_same Passed (LeadsTo g.provenances r.provenance) c.loop-place.marks place noted no);
            given = given_more Passed (IsReturned g.provenances r.provenance 0) place (λ given. absurd (no (by_given given.giving given.leading))) c.loop-place.invariant.given;
          }
    ]

pub returns : goal.returns
returns c =
    let test = c.loop-place-test.false in (
      λ _ k given. let low = c.requires.before k given in c.loop-place.invariant.given k (omega (arith, low, test)) given,
      λ _. refl,
    )
