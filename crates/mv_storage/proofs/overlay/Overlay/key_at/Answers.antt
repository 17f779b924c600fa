use Rattle.mv_storage.proofs.Common.{◌≡◌, ◌≤◌, None, arith, sym, Key, slot_at, Current}
use Rattle.mv_storage.proofs.Steps.{reads, no_slot}
use Rattle.mv_storage.proofs.overlay.Overlay.key_at.Goals as goal

pub returns-then-place : goal.returns-then-place
returns-then-place c =
    let places = c.storage.inside.work.places in
    let q : Key = record { address = c.args.address; place = c.args.place; index = c.args.index } in
    let big : 65536 ≤ c.args.place = omega arith in
    let none : slot_at places q ≡ None = no_slot places q c.storage.invariant.0.tracked.sound big in
    rw (← c.storage.view_is) (reads Current places q None c.storage.invariant.0.tracked.sound.ordered (sym none))
