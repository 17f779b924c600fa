use Rattle.mv_edges.proofs.Common.{◌<◌, ◌∙◌, ◌≡◌, an_edge, ap, are_ascending, arith, edge_before, edge_leq, false, get_or, here, length, list_any, subst, sym, true}
use Rattle.mv_edges.specs.Numbers.{nodes_number}
use Rattle.mv_edges.proofs.Numbers.{none_behind, none_left, none_more}
use Rattle.mv_ways.proofs.provenances.sinks.is_above_from.Goals as goal

pub returns-then-nodes_number-number : goal.returns-then-nodes_number-number
returns-then-nodes_number-number c =
    let e = c.args.e.now in
    let items = c.as_slice-items.result.now in
    let i = c.loop-place.place in
    let x = c.index-items-place.result in
    let inside : i < length items = c.loop-place-test.true in
    let up : are_ascending items ≡ true = ap are_ascending c.as_slice-items.ensures.value ∙ c.as_slice-items.ensures.ascending in
    let own : nodes_number x.from x.to ≡ c.nodes_number.result = sym (c.nodes_number.ensures.value ∙ (λ k. nodes_number (c.from-in-loop-place.ensures k) (c.to-in-loop-place.ensures k))) in
    let its : nodes_number e.from e.to ≡ c.nodes_number-number.result = sym (c.nodes_number-number.ensures.value ∙ (λ k. nodes_number (c.from.ensures k) (c.to.ensures k))) in
    let at : x ≡ get_or items i x = c.index-items-place.is in
    let rest = none_behind e items up i x inside (c.loop-place.invariant.behind i x (omega arith) inside)
    (λ same. c.if-nodes_number-number.true (sym own ∙ (λ k. nodes_number (at k).from (at k).to) ∙ same ∙ its)) in
    sym (none_left e items i c.loop-place.invariant.none rest) ∙ ap (list_any (edge_leq e)) c.as_slice-items.ensures.value

pub loop-place-preserved : goal.loop-place-preserved
loop-place-preserved c =
    let e = c.args.e.now in
    let items = c.as_slice-items.result.now in
    let i = c.loop-place.place in
    let fails : edge_leq e (get_or items i c.index-items-place.result) ≡ false =
    subst (λ o. edge_leq e o ≡ false) (c.of.ensures ∙ c.index-items-place.is) (sym c.is_below.ensures ∙ c.if-is_below.false) in
    record {
      none = none_more e items i c.index-items-place.result c.loop-place-test.true fails c.loop-place.invariant.none;
      behind = λ k d from below. c.loop-place.invariant.behind k d (omega (arith, from)) below;
    }

pub returns : goal.returns
returns c =
    let e = c.args.e.now in
    let items = c.as_slice-items.result.now in
    let end = c.loop-place-test.false in
    sym (none_left e items c.loop-place.place c.loop-place.invariant.none (λ k d from below. absurd (omega (arith, from, below, end)))) ∙ ap (list_any (edge_leq e)) c.as_slice-items.ensures.value
