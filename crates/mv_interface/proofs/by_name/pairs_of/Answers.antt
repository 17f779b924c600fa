use Rattle.mv_interface.proofs.Common.{arith, length-map}
use Rattle.mv_interface.specs.ByName.{names_at}
use Rattle.mv_interface.specs.Outline.{identifier_at}
use Rattle.mv_interface.proofs.ByHalves.{all-pairs}
use Rattle.mv_interface.proofs.by_name.pairs_of.Goals as goal

pub returns : goal.returns
returns c =
    let names = c.args.names.now in
    let identifiers = c.args.identifiers.now in
    all-pairs (names_at identifiers names) c.loop-i.pairs.items c.loop-i.i c.loop-i.invariant (omega (arith, length-map names (identifier_at identifiers)))
