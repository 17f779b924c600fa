use Rattle.mv_interface.proofs.InterfaceLemmas.{interface-is}
use Rattle.mv_interface.proofs.interface.Interface.of.Goals as goal

pub returns : goal.returns
returns c = λ modules bounds outline are.
    interface-is modules c.args.m.now c.args.structs.now are bounds _ outline c.in_ok-parts_of.ensures c.in_ok-types_of.ensures c.in_ok-types_of-2.ensures
