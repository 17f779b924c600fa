use Rattle.std.proofs.Common.{◌≡◌, cond, nat_lt, false, Some, sym, ap, ap₂, ◌∙◌, arith}
use Rattle.std.proofs.lemmas.Bool.Decides.{nat_tests}
use Rattle.mv_frames.specs.Counters.{placed_in, first_few, key_cmp, key_of}
use Rattle.std.specs.Ordering.{is_eq}
use Rattle.mv_frames.proofs.Counts.{key-is}
use Rattle.mv_frames.proofs.counters.note_place.Goals as goal

pub returns-in-Ok-clause-placed : goal.returns-in-Ok-clause-placed
returns-in-Ok-clause-placed c q =
    let was = placed_in c.args.places.now.entries q in
    let past : nat_lt c.args.place first_few ≡ false = grind (arith, nat_tests, c.if-place-lt-FIRST_FEW.false) in
    c.in-Ok.ensures.updates.0 (key_of q)
    ∙ ap (λ k. cond (is_eq (key_cmp k (key_of q))) (Some c.args.place) was) c.of.ensures
    ∙ ap₂ (λ a b. cond a was (cond b (Some c.args.place) was)) (sym past) (key-is c.args.d q)
