use Rattle.mv_linker.proofs.Common.{◌∙◌, Global, Option, Vec, ap, arith, sym, inr, list_all, is_some, Size}
use Rattle.std.proofs.lemmas.List.Folds.{list_all-map}
use Rattle.mv_linker.proofs.rules.sizes.rows_of.Goals as goal

pub returns-then-are_known : goal.returns-then-are_known
returns-then-are_known c = record {
  rounds = c.loop-round._round;
  some = omega arith;
  few = omega arith;
  after = c.loop-round.invariant;
  ends = inr
      (list_all-map (list_all is_some) (λ (r : Vec (Option Size) Global). r.items) c.loop-round.rows.items
      ∙ ap (list_all (λ (r : Vec (Option Size) Global). list_all is_some r.items)) (sym c.deref.ensures.value) ∙ sym c.are_known.ensures ∙ c.if-are_known.true);
}
