use Rattle.mv_storage.proofs.Common.{◌∙◌, refl, subst}
use Rattle.mv_storage.specs.Blocks.{AreClearing}
use Rattle.mv_storage.proofs.Undoing.{clearing-placed, clearing-last, clearing-rest, kept-others, kept-same}
use Rattle.mv_storage.proofs.blocks.forget.Goals as goal

pub loop-change-init : goal.loop-change-init
loop-change-init c = record {
  sound = c.requires.sound;
  kept = c.requires.kept;
  clearing = clearing-placed c.args.places.now c.args.undo.now.items c.requires.undoable.placed;
  same = λ q. refl;
}

pub clear-requires-clause-resolving : goal.clear-requires-clause-resolving
clear-requires-clause-resolving c =
    let p = c.loop-change.places in
    clearing-last p c.pop.new.self.items c.in-Some.change (subst (AreClearing p) c.in-Some.ensures.items c.loop-change.invariant.clearing)

pub loop-change-preserved : goal.loop-change-preserved
loop-change-preserved c =
    let p = c.loop-change.places in
    let n = c.clear.new.places in
    let u = c.in-Some.change in
    record {
      sound = c.clear.ensures.sound;
      kept = kept-others p n u.key c.clear.ensures.resolved c.clear.ensures.others c.loop-change.invariant.kept;
      clearing = clearing-rest p n c.pop.new.self.items u c.clear.ensures.resolving (subst (AreClearing p) c.in-Some.ensures.items c.loop-change.invariant.clearing);
      same = λ q. c.clear.ensures.same q ∙ c.loop-change.invariant.same q;
    }

pub loop-change-preserved-in-Some : goal.loop-change-preserved-in-Some
loop-change-preserved-in-Some c =
    let p = c.loop-change.places in
    let n = c.clear.new.places in
    let u = c.in-Some.change in
    record {
      sound = c.clear.ensures.sound;
      kept = kept-others p n u.key c.clear.ensures.resolved c.clear.ensures.others c.loop-change.invariant.kept;
      clearing = clearing-rest p n c.pop.new.self.items u c.clear.ensures.resolving (subst (AreClearing p) c.in-Some.ensures.items c.loop-change.invariant.clearing);
      same = λ q. c.clear.ensures.same q ∙ c.loop-change.invariant.same q;
    }

pub loop-change-preserved-in-Some-2 : goal.loop-change-preserved-in-Some-2
loop-change-preserved-in-Some-2 c =
    let p = c.loop-change.places in
    let n = c.clear.new.places in
    let u = c.in-Some.change in
    record {
      sound = c.clear.ensures.sound;
      kept = kept-others p n u.key c.clear.ensures.resolved c.clear.ensures.others c.loop-change.invariant.kept;
      clearing = clearing-rest p n c.pop.new.self.items u c.clear.ensures.resolving (subst (AreClearing p) c.in-Some.ensures.items c.loop-change.invariant.clearing);
      same = λ q. c.clear.ensures.same q ∙ c.loop-change.invariant.same q;
    }

pub returns-clause-same : goal.returns-clause-same
returns-clause-same c = kept-same c.args.places.now c.loop-change.places c.requires.kept c.loop-change.invariant.kept c.loop-change.invariant.same
