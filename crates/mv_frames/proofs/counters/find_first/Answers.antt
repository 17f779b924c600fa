use Rattle.std.proofs.Common.{◌≡◌, ◌<◌, ◌∙◌, sym, map, length, subst, arith, ⊎_elim}
use Rattle.std.proofs.lemmas.Bool.{cases_lt}
use Rattle.std.proofs.lemmas.List.{length-map}
use Rattle.std.proofs.lemmas.Option.{slice_get_within}
use Rattle.mv_frames.specs.Counters.{struct_of, IsAt}
use Rattle.mv_frames.proofs.Counts.{not-at}
use Rattle.mv_frames.proofs.counters.find_first.Goals as goal

pub loop-place-preserved : goal.loop-place-preserved
loop-place-preserved c = λ i lt at.
    ⊎_elim
    (λ (h : i < c.loop-place.place). c.loop-place.invariant i h at)
    (λ h.
    let here : i ≡ c.loop-place.place = omega (arith, lt, h) in
    not-at c.args.tallies.now c.loop-place.place c.args.d _ (sym c.is_of.ensures ∙ c.if-is_of.false) (subst (IsAt (map struct_of c.args.tallies.now) c.args.d) here at))
    (cases_lt i c.loop-place.place)

pub returns : goal.returns
returns c = λ i few at.
    let within = slice_get_within (map struct_of c.args.tallies.now) i c.args.d at in
    let short : i < length c.args.tallies.now = omega (arith, within, length-map c.args.tallies.now struct_of) in
    c.loop-place.invariant i (omega (arith, few, short, c.loop-place-test.false, c.min-place-end.ensures)) at
