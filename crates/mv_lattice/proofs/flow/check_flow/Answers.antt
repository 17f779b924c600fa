use Rattle.std.proofs.Common.{◌≡◌, ◌<◌, length, arith, refl}
use Rattle.std.proofs.lemmas.Option.{slice_get_read, slice_get_within}
use Rattle.mv_cfg.specs.Graph.{IsBlock}
use Rattle.mv_lattice.specs.Flow.{IsClosedAt, IsStated}
use Rattle.mv_lattice.proofs.Flows.{block_read, holds_some, holds_none}
use Rattle.mv_lattice.proofs.flow.check_flow.Goals as goal
use Rattle.mv_lattice.proofs.flow.check_flow.Goals.{in-Some+else-not-leq, in_default, in-Some-stated+in_ok-check_block, in_default-stated}

pub loop-k-preserved : goal.loop-k-preserved
loop-k-preserved g c =
    let d = c.args.d.now in
    let o = g.D.Domain.order d in
    let stated = c.args.stated.now in
    let k = c.loop-k.k in
    let block : IsBlock c.args.g.now k c.block-item.result = block_read c.deref-block-items.result.now c.args.g.now.blocks.items k c.block-item.result c.deref-block-items.ensures.value c.loop-k-test.true c.block-item.is in
    let within : k < length stated = omega (arith, c.requires.flow.entries, c.deref-block-items.ensures.len) in
    let read = slice_get_read stated (length stated) k c.index-stated-k.result refl within c.index-stated-k.is in
    elim c.match-stated-k.branch [
      | in-Some-stated+in_ok-check_block w ↦
          let there : IsStated stated k w.in-Some-stated.s = cc (read, w.in-Some-stated.is) in
          holds_some c.args.g.now.blocks.items stated (IsClosedAt o stated) k c.block-item.result w.in-Some-stated.s block there w.in_ok-check_block.ensures.ok c.loop-k.invariant
      | in_default-stated w ↦
          holds_none c.args.g.now.blocks.items stated (IsClosedAt o stated) k (cc (read, w.in_default-stated.is)) c.loop-k.invariant
    ]

pub returns-clause-ok : goal.returns-clause-ok
returns-clause-ok g c =
    let stated = c.args.stated.now in
    let within : 0 < length stated = omega (arith, c.requires.flow.entries, c.requires.graph.has_entry) in
    let read = slice_get_read stated (length stated) 0 c.index-stated-0.result refl within c.index-stated-0.is in
    record {
      entry = λ s st. elim c.match-stated.branch [
        | in-Some+else-not-leq w ↦
            let same : w.in-Some.entry ≡ s = cc (read, w.in-Some.is, st) in
            rw (← same) (w.leq.ensures.0 w.if-not-leq.false)
        | in_default w ↦ cc (read, w.in_default.is, st)
      ];
      closed = λ k b s eb es. c.loop-k.invariant k b s (let h : k < length c.args.g.now.blocks.items = slice_get_within c.args.g.now.blocks.items k b eb in omega (arith, c.deref-block-items.ensures.value, c.deref-block-items.ensures.len, h)) eb es;
    }
