use Rattle.mv_linker.proofs.Common.{◌≡◌, Module, None, own_name, subst, sym}
use Rattle.mv_interface.proofs.OwnDefinitions.{own_name-not_none}
use Rattle.mv_linker.proofs.store.entry.entry_of.Goals as goal

pub unreachable-requires : goal.unreachable-requires
unreachable-requires c =
    let P : Module → Type 0 = λ m. own_name m ≡ None in
    let none : own_name c.module-module.result.now ≡ None = sym c.in_default.ensures in
    own_name-not_none c.args.new.now.module c.module-module.ensures.sound.bounds (subst P c.module-module.ensures.value none)
