use Rattle.mv_storage.proofs.Common.{[], ◌∙◌, ◌≡◌, List, ap, false, refl, subst, sym, true, ℕ, length}
use Rattle.mv_undo.specs.Undo.{marks_of, AreMarks}
use Rattle.mv_storage.specs.Slots.{layers}
use Rattle.mv_storage.specs.Blocks.{back, IsUndoable}
use Rattle.mv_storage.proofs.blocks.close.Goals as goal

pub returns-then-is_empty : goal.returns-then-is_empty
returns-then-is_empty c =
    let n = c.forget.new.places in
    let marks = c.args.marks.now in
    let none : marks ≡ [] = c.if-is_empty.ensures.empty refl in
    let left : c.give_back.new.undo.items ≡ [] = c.give_back.ensures in
    record {
      sound = c.forget.ensures.sound;
      kept = c.forget.ensures.kept;
      undoable = subst (IsUndoable n) (sym left) (record { placed = tt; fresh = tt });
      none = λ _. left;
      same = c.forget.ensures.same;
      fits = λ _. subst (λ (ms : List ℕ). AreMarks ms (length c.give_back.new.undo.items)) (sym none) tt;
      marks = ap (λ ms. marks_of back c.give_back.new.undo.items ms (layers n).committed) none ∙ sym (ap (λ ms. marks_of back c.args.undo.now.items ms (layers c.args.places.now).committed) none);
    }

pub returns-else-is_empty : goal.returns-else-is_empty
returns-else-is_empty c = record {
  sound = c.requires.sound;
  kept = c.requires.kept;
  undoable = c.requires.undoable;
  none = λ e. absurd (let no : false ≡ true = c.if-is_empty.ensures.open e in let x : ⊥ = cc in x);
  same = λ q. refl;
  fits = λ a. a;
  marks = refl;
}
