use Rattle.mv_bounds.proofs.Common.{[], ℕ, ◌++◌, ◌+◌, ◌<◌, ◌∙◌, ◌∷◌, ◌≡◌, Global, List, Vec, ap, arith, get_or, get_or-set_same, length, refl, set, subst, sym, take, take_all, Released}
use Rattle.std.proofs.Common.{◌-◌}
use Rattle.mv_bounds.proofs.ReleaseLemmas.{one_left, released_past, released_more, released_last}
use Rattle.mv_bounds.proofs.cycles.release.Goals.{then-target-waiting+then-waiting-target-eq0+in_ok-push, then-target-waiting+else-waiting-target-eq0, else-target-waiting}
use Rattle.mv_bounds.proofs.cycles.release.Goals as goal

pub overflow_sub-waiting : goal.overflow_sub-waiting
overflow_sub-waiting c =
    let x = get_or c.args.targets.now c.loop-target.target-index 0 in
    let inside : x < length c.args.waiting.now = omega arith in
    one_left (length c.args.waiting.now) c.args.waiting.now c.loop-target.waiting c.args.ready.now.items c.loop-target.ready.items c.args.targets.now c.loop-target.target-index x c.loop-target.invariant c.loop-target-test.true refl inside (c.requires x inside)

pub loop-target-preserved : goal.loop-target-preserved
loop-target-preserved c =
    let n = length c.args.waiting.now in
    let before = c.args.waiting.now in
    let old = c.loop-target.waiting in
    let ready0 = c.args.ready.now.items in
    let ready = c.loop-target.ready.items in
    let targets = c.args.targets.now in
    let k = c.loop-target.target-index in
    let x = get_or targets k 0 in
    let count = get_or old x 0 - 1 in
    let kept = λ (after : List ℕ) (new : Vec ℕ Global) (items : List ℕ) (wrote : c.if-target-waiting.waiting ≡ after) (is : c.if-target-waiting.ready ≡ new) (pushed : new.items ≡ items) (r : Released n before after ready0 items (take (k + 1) targets)).
    subst (λ (xs : List ℕ). Released n before xs ready0 c.if-target-waiting.ready.items (take (k + 1) targets)) (sym wrote)
    (subst (λ (ys : List ℕ). Released n before after ready0 ys (take (k + 1) targets)) (sym (ap (λ (v : Vec ℕ Global). v.items) is ∙ pushed)) r) in
    let inside = λ (h : x < length old). (let l : x < n = omega (arith, h) in l) in
    let held = λ (h : x < length old). (let one = one_left n before old ready0 ready targets k x c.loop-target.invariant c.loop-target-test.true refl (inside h) (c.requires x (inside h)) in let e : get_or old x 0 ≡ count + 1 = omega (arith, one) in e) in
    elim c.if-target-waiting.branch [
      | then-target-waiting+then-waiting-target-eq0+in_ok-push w ↦
          let h = w.if-target-waiting.true in
          let none : count ≡ 0 = sym (get_or-set_same old x count 0 h) ∙ w.if-waiting-target-eq0.true in
          kept (set old x count) _ (ready ++ x ∷ []) w.waiting-is w.ready-is w.in_ok-push.ensures.items
          (released_last n before old ready0 ready targets k x count c.loop-target.invariant c.loop-target-test.true refl (inside h) (held h) none)
      | then-target-waiting+else-waiting-target-eq0 w ↦
          let h = w.if-target-waiting.true in
          kept (set old x count) _ ready w.waiting-is w.ready-is refl
          (released_more n before old ready0 ready targets k x count c.loop-target.invariant c.loop-target-test.true refl (inside h) (held h) (λ z. w.if-waiting-target-eq0.false (get_or-set_same old x count 0 h ∙ z)))
      | else-target-waiting w ↦
          kept old _ ready w.waiting-is w.ready-is refl
          (released_past n before old ready0 ready targets k x c.loop-target.invariant c.loop-target-test.true refl (omega arith))
    ]

pub returns : goal.returns
returns c =
    let released = λ (ts : List ℕ). Released (length c.args.waiting.now) c.args.waiting.now c.loop-target.waiting c.args.ready.now.items c.loop-target.ready.items ts in
    subst released (take_all c.loop-target.target-index c.args.targets.now c.loop-target-test.false) c.loop-target.invariant
