use Rattle.mv_binary_format.proofs.Common.{ap, arith, length, refl, version_number}
use Rattle.mv_binary_format.proofs.Codes.{few-instructions}
use Rattle.mv_binary_format.proofs.cursor.Cursor.to_vec.Goals as goal

-- the list has room for all that are left
pub loop-instruction-init : goal.loop-instruction-init
loop-instruction-init c =
    let made = c.in_ok-instructions.ensures in
    let same = c.into_iter-instruction-iterator.ensures.into_iter_gives in
    let few = few-instructions (version_number c.self.inside.version) c.self.inside.left c.self.inside.reader in
    (rw (made.items, same) refl, omega (arith, made.len, made.capacity, ap length same, ap length c.self.view_is, few))
