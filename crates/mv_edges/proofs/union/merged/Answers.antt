use Rattle.mv_edges.proofs.Common.{◌++◌, ◌+◌, ◌∙◌, ◌≡◌, ◌≤◌, ◌⊎◌, ap, arith, drop, inl, inr, length, sym, sorted}
use Rattle.std.proofs.lemmas.List.{take_rest}
use Rattle.mv_edges.proofs.Comparisons.{order_same, order_less, order_greater, order_of_views}
use Rattle.mv_edges.proofs.Sorting.{left_first, right_first, both_first, merged_more, merged_rest}
use Rattle.mv_edges.proofs.union.merged.Goals.{then-loop-i-test+else-j-b, else-loop-i-test}
use Rattle.mv_edges.proofs.union.merged.Goals as goal

pub loop-i-preserved-in-Less : goal.loop-i-preserved-in-Less
loop-i-preserved-in-Less c =
    let a = c.args.a.now in
    let b = c.args.b.now in
    let i = c.loop-i.i in
    let j = c.loop-i.j in
    let x = c.index-a-i.result in
    let y = c.index-b-j.result in
    let in_a = c.loop-i-test.true in
    let in_b = c.if-j-b.true in
    let order = order_of_views c.view.result x c.view-in-loop-i.result y c.view.ensures c.view-in-loop-i.ensures ∙ sym c.in-Less.ensures in
    let step = left_first a b c.requires.left c.requires.right i j x y in_a in_b c.index-a-i.is c.index-b-j.is (order_less x y order) in
    record {
      left = omega (arith, in_a);
      right = c.loop-i.invariant.right;
      merged = merged_more c.loop-i.items.items c.push.new.self.items (drop i a ++ drop j b) (drop (i + 1) a ++ drop j b) (sorted (a ++ b)) c.in_ok-copy-in-Less.field-0 x c.in_ok-push-in-Less.ensures.items c.in_ok-copy-in-Less.ensures step c.loop-i.invariant.merged;
    }

pub loop-i-preserved-in-Equal : goal.loop-i-preserved-in-Equal
loop-i-preserved-in-Equal c =
    let a = c.args.a.now in
    let b = c.args.b.now in
    let i = c.loop-i.i in
    let j = c.loop-i.j in
    let x = c.index-a-i.result in
    let y = c.index-b-j.result in
    let in_a = c.loop-i-test.true in
    let in_b = c.if-j-b.true in
    let order = order_of_views c.view.result x c.view-in-loop-i.result y c.view.ensures c.view-in-loop-i.ensures ∙ sym c.in-Equal.ensures in
    let step = both_first a b c.requires.left c.requires.right i j x y in_a in_b c.index-a-i.is c.index-b-j.is (order_same x y order) in
    record {
      left = omega (arith, in_a);
      right = omega (arith, in_b);
      merged = merged_more c.loop-i.items.items c.push-in-Equal.new.self.items (drop i a ++ drop j b) (drop (i + 1) a ++ drop (j + 1) b) (sorted (a ++ b)) c.in_ok-copy-in-Equal.field-0 x c.in_ok-push-in-Equal.ensures.items c.in_ok-copy-in-Equal.ensures step c.loop-i.invariant.merged;
    }

pub loop-i-preserved : goal.loop-i-preserved
loop-i-preserved c =
    let a = c.args.a.now in
    let b = c.args.b.now in
    let i = c.loop-i.i in
    let j = c.loop-i.j in
    let x = c.index-a-i.result in
    let y = c.index-b-j.result in
    let in_a = c.loop-i-test.true in
    let in_b = c.if-j-b.true in
    let order = order_of_views c.view.result x c.view-in-loop-i.result y c.view.ensures c.view-in-loop-i.ensures ∙ sym c.in-Greater.ensures in
    let step = right_first a b c.requires.left c.requires.right i j x y in_a in_b c.index-a-i.is c.index-b-j.is (order_greater x y order) in
    record {
      left = c.loop-i.invariant.left;
      right = omega (arith, in_b);
      merged = merged_more c.loop-i.items.items c.push-in-Greater.new.self.items (drop i a ++ drop j b) (drop i a ++ drop (j + 1) b) (sorted (a ++ b)) c.in_ok-copy-in-Greater.field-0 y c.in_ok-push-in-Greater.ensures.items c.in_ok-copy-in-Greater.ensures step c.loop-i.invariant.merged;
    }

pub returns : goal.returns
returns c =
    let a = c.args.a.now in
    let b = c.args.b.now in
    let i = c.loop-i.i in
    let j = c.loop-i.j in
    let items = c.loop-i.items.items in
    let end : (length a ≤ i) ⊎ (length b ≤ j) = elim c.loop-i-test.branch [ then-loop-i-test+else-j-b w ↦ inr w.if-j-b.false | else-loop-i-test w ↦ inl w.loop-i-test.false ] in
    let one : c.push_copies.new.items.items ≡ items ++ drop i a = c.in_ok-push_copies.ensures ∙ ap (λ es. items ++ es) (take_rest a i) in
    let two : c.push_copies-2.new.items.items ≡ c.push_copies.new.items.items ++ drop j b = c.in_ok-push_copies-2.ensures ∙ ap (λ es. c.push_copies.new.items.items ++ es) (take_rest b j) in
    two ∙ ap (λ es. es ++ drop j b) one ∙ merged_rest a b c.requires.left c.requires.right items (sorted (a ++ b)) i j end c.loop-i.invariant.merged
