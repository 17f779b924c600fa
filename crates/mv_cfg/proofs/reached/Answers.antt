use Rattle.std.proofs.Common.{◌≡◌, ◌<◌, ◌≤◌, ℕ, true, false, List, [], ◌∷◌, ◌++◌, length, get_or, replicate, refl, sym, ap, ◌∙◌, subst, arith}
use Rattle.std.proofs.lemmas.List.{length_push, nil_from_length, get_or_read}
use Rattle.std.proofs.lemmas.Option.{slice_get_read}
use Rattle.mv_cfg.specs.Graph.{IsBlock}
use Rattle.mv_cfg.proofs.Search.{IsSearch, AreMarked, IsSearch-start, IsSearch-popped, IsSearch-found, IsSearch-closed, IsSearch-end, open-within}
use Rattle.mv_cfg.proofs.Search.{next-within, next-edge, unmarked-set, AreMarked-more, AreMarked-set}
use Rattle.mv_cfg.proofs.reached.Goals as goal
use Rattle.mv_cfg.proofs.reached.Goals.{then-not-index+in_ok-push-2, else-not-index}

pub loop-k-init : goal.loop-k-init
loop-k-init c =
    let marks : c.in_ok-marks.marks.items ≡ replicate c.len.result false = c.in_ok-marks.ensures.items_if_clones_equal (λ y e. (cc)) in
    let count = c.args.g.now.blocks.ok.0 in
    let work : c.push.new.self.items ≡ 0 ∷ [] = c.in_ok-push.ensures.items ∙ ap (λ (xs : List ℕ). xs ++ 0 ∷ []) c.new-worklist.ensures.items in
    rw (marks, work) (IsSearch-start c.args.g.now c.len.result (c.len.ensures ∙ count) (omega (arith, c.requires.has_entry, c.len.ensures, count)))

pub index-requires : goal.index-requires
index-requires c =
    let count = c.args.g.now.blocks.ok.0 in
    let within : c.in-Some.k < length c.args.g.now.blocks.items =
    open-within c.args.g.now c.loop-k.marks.items c.pop.new.self.items c.in-Some.k (IsSearch-popped c.args.g.now c.loop-k.marks.items c.loop-k.worklist.items c.pop.new.self.items c.in-Some.k c.in-Some.ensures.items c.loop-k.invariant) in
    omega arith

pub loop-next-init : goal.loop-next-init
loop-next-init c = record {
  search = IsSearch-popped c.args.g.now c.loop-k.marks.items c.loop-k.worklist.items c.pop.new.self.items c.in-Some.k c.in-Some.ensures.items c.loop-k.invariant;
  done = λ i h. absurd (omega arith);
  left = refl;
}

pub loop-k-preserved : goal.loop-k-preserved
loop-k-preserved c =
    let at = c.loop-next in
    let within = open-within c.args.g.now at.marks.items at.worklist.items c.in-Some.k at.invariant.search in
    let is : IsBlock c.args.g.now c.in-Some.k c.index.result.now = slice_get_read c.args.g.now.blocks.items (length c.args.g.now.blocks.items) c.in-Some.k c.index.result.now refl within c.index.ensures in
    let over : length c.deref-next-items.result.now ≤ at.next-index = c.loop-next-test.false in
    let all : AreMarked at.marks.items c.deref-next-items.result.now (length c.deref-next-items.result.now) = λ i h. at.invariant.done i (omega arith) in
    IsSearch-closed c.args.g.now at.marks.items at.worklist.items c.in-Some.k c.index.result.now is (subst (λ (xs : List ℕ). AreMarked at.marks.items xs (length xs)) c.deref-next-items.ensures.value all) at.invariant.search

pub index-requires-in-loop-next : goal.index-requires-in-loop-next
index-requires-in-loop-next c =
    let at = c.loop-next in
    let count = at.marks.ok.0 in
    let within = open-within c.args.g.now at.marks.items at.worklist.items c.in-Some.k at.invariant.search in
    let is : IsBlock c.args.g.now c.in-Some.k c.index.result.now = slice_get_read c.args.g.now.blocks.items (length c.args.g.now.blocks.items) c.in-Some.k c.index.result.now refl within c.index.ensures in
    let small = next-within c.args.g.now at.marks.items (c.in-Some.k ∷ at.worklist.items) c.in-Some.k c.index.result.now c.deref-next-items.result.now at.next-index c.requires at.invariant.search is c.deref-next-items.ensures.value c.loop-next-test.true in
    omega arith

pub index_mut-requires-then-not-index : goal.index_mut-requires-then-not-index
index_mut-requires-then-not-index c =
    let at = c.loop-next in
    let count = at.marks.ok.0 in
    let within = open-within c.args.g.now at.marks.items at.worklist.items c.in-Some.k at.invariant.search in
    let is : IsBlock c.args.g.now c.in-Some.k c.index.result.now = slice_get_read c.args.g.now.blocks.items (length c.args.g.now.blocks.items) c.in-Some.k c.index.result.now refl within c.index.ensures in
    let small = next-within c.args.g.now at.marks.items (c.in-Some.k ∷ at.worklist.items) c.in-Some.k c.index.result.now c.deref-next-items.result.now at.next-index c.requires at.invariant.search is c.deref-next-items.ensures.value c.loop-next-test.true in
    omega arith

pub loop-next-preserved : goal.loop-next-preserved
loop-next-preserved c =
    let at = c.loop-next in
    let next = c.deref-next-items.result.now in
    let within = open-within c.args.g.now at.marks.items at.worklist.items c.in-Some.k at.invariant.search in
    let is : IsBlock c.args.g.now c.in-Some.k c.index.result.now = slice_get_read c.args.g.now.blocks.items (length c.args.g.now.blocks.items) c.in-Some.k c.index.result.now refl within c.index.ensures in
    let small : get_or next at.next-index 0 < length at.marks.items = next-within c.args.g.now at.marks.items (c.in-Some.k ∷ at.worklist.items) c.in-Some.k c.index.result.now next at.next-index c.requires at.invariant.search is c.deref-next-items.ensures.value c.loop-next-test.true in
    elim c.if-not-index.branch [
      | then-not-index+in_ok-push-2 w ↦
          let before : get_or at.marks.items (get_or next at.next-index 0) false ≡ false = sym (get_or_read at.marks.items (get_or next at.next-index 0) c.index-in-loop-next.result.now small c.index-in-loop-next.ensures false) ∙ w.if-not-index.true in
          let fewer = unmarked-set at.marks.items (get_or next at.next-index 0) small before in
          let edge = next-edge c.args.g.now c.in-Some.k c.index.result.now next at.next-index is c.deref-next-items.ensures.value c.loop-next-test.true in
          let longer = length_push at.worklist.items (get_or next at.next-index 0) in
          let size = at.invariant.search.size in
          rw (w.marks-is, w.worklist-is, w.in_ok-push-2.ensures.items) (record {
            search = IsSearch-found c.args.g.now at.marks.items at.worklist.items c.in-Some.k (get_or next at.next-index 0) edge (omega arith) at.invariant.search;
            done = AreMarked-set at.marks.items next at.next-index small at.invariant.done;
            left = omega (arith, fewer, longer, at.invariant.left);
          })
      | else-not-index w ↦
          let before : get_or at.marks.items (get_or next at.next-index 0) false ≡ true = sym (get_or_read at.marks.items (get_or next at.next-index 0) c.index-in-loop-next.result.now small c.index-in-loop-next.ensures false) ∙ w.if-not-index.false in
          rw (w.marks-is, w.worklist-is) (record {
            search = at.invariant.search;
            done = AreMarked-more at.marks.items next at.next-index at.invariant.done before;
            left = at.invariant.left;
          })
    ]

pub returns : goal.returns
returns c =
    let none : c.loop-k.worklist.items ≡ [] = nil_from_length c.loop-k.worklist.items (let zero = c.in_default.ensures.cases.0 in let size = c.loop-k.worklist.ok.0 in omega arith) in
    IsSearch-end c.args.g.now c.loop-k.marks.items (subst (IsSearch c.args.g.now c.loop-k.marks.items) none c.loop-k.invariant)
