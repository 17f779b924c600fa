use Rattle.mv_storage.proofs.Common.{◌∙◌, arith, refl, subst, AreNoted}
use Rattle.mv_storage.proofs.Steps.{resolving-placed, resolving-last, resolving-rest, noted-rest, AreResolving}
use Rattle.mv_storage.proofs.Undoing.{noted-none, noted-then}
use Rattle.mv_storage.proofs.blocks.note_all.Goals as goal

pub loop-key-init : goal.loop-key-init
loop-key-init c =
    let p = c.args.places.now in
    let order = c.requires.tracked.sound.ordered in
    record {
      sound = c.requires.tracked.sound;
      noted = c.requires.tracked.noted;
      resolving = resolving-placed p c.args.touched.now.items c.requires.tracked.placed;
      same = λ q. refl;
      room = c.requires.room;
      kept = noted-none p p c.args.undo.now.items order order c.requires.undoable (λ q place h. h) (λ q. refl);
    }

pub note_one-requires-clause-resolving : goal.note_one-requires-clause-resolving
note_one-requires-clause-resolving c =
    let p = c.loop-key.places in
    resolving-last p c.pop.new.self.items (c.in-Some.key, c.in-Some.place) (subst (AreResolving p) c.in-Some.ensures.items c.loop-key.invariant.resolving)

pub loop-key-preserved : goal.loop-key-preserved
loop-key-preserved c =
    let p = c.loop-key.places in
    let n = c.note_one.new.places in
    let rest = c.pop.new.self.items in
    let resolved = c.note_one.ensures.resolved in
    record {
      sound = resolved.sound;
      noted = noted-rest p n rest (c.in-Some.key, c.in-Some.place) (subst (AreNoted p) c.in-Some.ensures.items c.loop-key.invariant.noted) resolved.resolved resolved.others;
      resolving = resolving-rest p n rest (c.in-Some.key, c.in-Some.place) resolved.resolving (subst (AreResolving p) c.in-Some.ensures.items c.loop-key.invariant.resolving);
      same = λ q. resolved.same q ∙ c.loop-key.invariant.same q;
      room = omega (arith, c.loop-key.invariant.room, c.note_one.ensures.more, c.note_one.ensures.capacity, c.in-Some.ensures.len);
      kept = noted-then c.args.places.now p n c.args.undo.now.items c.loop-key.undo.items c.note_one.new.undo.items c.loop-key.invariant.kept c.note_one.ensures.noted;
    }
