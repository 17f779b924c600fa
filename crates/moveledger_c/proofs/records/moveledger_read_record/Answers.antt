use Rattle.std.proofs.Common.{inl, inr, refl}
use Rattle.moveledger_c.proofs.records.moveledger_read_record.Goals as goal

pub returns-in_default : goal.returns-in_default
returns-in_default c = inr (inl (refl, c.in_default.ensures, refl, refl, c.tell.ensures))

pub returns-in_default-asked : goal.returns-in_default-asked
returns-in_default-asked c = inr (inr (refl, refl, refl, c.tell.ensures))

pub returns : goal.returns
returns c = inl (refl, c.in-Some.front.payload.now, c.in-Ok.asked, c.in-Some.ensures.0, c.in-Ok.ensures, c.tell-2.ensures)
