use Rattle.std.proofs.Common.{◌≡◌, None, sym, subst}
use Rattle.mv_move_types.specs.Module.{Module, own_name}
use Rattle.mv_interface.proofs.OwnDefinitions.{own_name-not_none}
use Rattle.mv_linker.proofs.rules.scope.own_name.Goals as goal

pub unreachable-requires : goal.unreachable-requires
unreachable-requires c =
    let P : Module → Type 0 = λ m. own_name m ≡ None in
    let none : own_name c.module.result.now ≡ None = sym c.in_default.ensures in
    own_name-not_none c.args.n.now.module c.module.ensures.sound.bounds (subst P c.module.ensures.value none)
