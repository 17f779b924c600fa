use Rattle.mv_storage.proofs.Common.{◌∙◌, refl, subst, AreNoted}
use Rattle.mv_storage.proofs.Steps.{resolving-placed, resolving-last, resolving-rest, noted-rest, AreResolving}
use Rattle.mv_storage.proofs.slots.resolve_all.Goals as goal

pub loop-key-init : goal.loop-key-init
loop-key-init c = record {
  sound = c.requires.tracked.sound;
  noted = c.requires.tracked.noted;
  remembered = c.requires.remembered;
  resolving = resolving-placed c.args.places.now c.args.touched.now.items c.requires.tracked.placed;
  same = λ q. refl;
  pinned = λ is q place h. h;
}

pub resolve_one-requires-clause-resolving : goal.resolve_one-requires-clause-resolving
resolve_one-requires-clause-resolving c =
    let p = c.loop-key.places in
    resolving-last p c.pop.new.self.items (c.in-Some.key, c.in-Some.place) (subst (AreResolving p) c.in-Some.ensures.items c.loop-key.invariant.resolving)

pub loop-key-preserved : goal.loop-key-preserved
loop-key-preserved c =
    let p = c.loop-key.places in
    let n = c.resolve_one.new.places in
    let rest = c.pop.new.self.items in
    record {
      sound = c.resolve_one.ensures.at.sound;
      remembered = c.resolve_one.ensures.remembered;
      noted = noted-rest p n rest (c.in-Some.key, c.in-Some.place) (subst (AreNoted p) c.in-Some.ensures.items c.loop-key.invariant.noted) c.resolve_one.ensures.at.resolved c.resolve_one.ensures.at.others;
      resolving = resolving-rest p n rest (c.in-Some.key, c.in-Some.place) c.resolve_one.ensures.at.resolving (subst (AreResolving p) c.in-Some.ensures.items c.loop-key.invariant.resolving);
      same = λ q. c.resolve_one.ensures.at.same q ∙ c.loop-key.invariant.same q;
      pinned = λ is q place h. c.resolve_one.ensures.at.pinned is q place (c.loop-key.invariant.pinned is q place h);
    }
