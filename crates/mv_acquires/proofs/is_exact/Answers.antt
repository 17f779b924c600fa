use Rattle.std.proofs.Common.{flat_map}
use Rattle.mv_acquires.specs.Acquires.{reached_by}
use Rattle.mv_acquires.proofs.Marking.{same_marks}
use Rattle.mv_acquires.proofs.is_exact.Goals as goal

pub returns : goal.returns
returns c =
    same_marks c.in_ok-listed.listed c.in_ok-reached.reached c.args.list.now (flat_map (reached_by c.args.m.now) c.args.code.now) c.are_same.result c.are_same.ensures c.in_ok-listed.ensures c.in_ok-reached.ensures
