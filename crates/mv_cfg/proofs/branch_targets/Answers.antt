use Rattle.std.proofs.Common.{◌<◌, length, arith}
use Rattle.mv_cfg.proofs.Tables.{branch-inside}
use Rattle.mv_cfg.proofs.branch_targets.Goals as goal

pub index_mut-requires : goal.index_mut-requires
index_mut-requires c =
    let at = c.loop-instruction in
    let inside : c.in-Fork.target < length c.args.code.now = branch-inside c.args.code.now c.requires at.instruction-index c.exit.result c.in-Fork.target c.loop-instruction-test.true c.exit.ensures c.in-Fork.is in
    omega (arith, c.from.ensures, at.invariant.size, at.marks.ok.0)
