use Rattle.mv_ledger.proofs.Records.{records_well}
use Rattle.mv_ledger.proofs.laws.each_record_is_well.Goals as goal

pub returns : goal.returns
returns c = records_well c.modules_are_read_by_text.ensures
