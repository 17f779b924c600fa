use Rattle.mv_ledger.proofs.Common.{arith}
use Rattle.mv_ledger.proofs.Shows.Reports.{replied_utf8}
use Rattle.mv_ledger.proofs.Ledger.show.Goals as goal

pub into_text-requires : goal.into_text-requires
into_text-requires c = replied_utf8 3 c.args.payload.now c.in_ok-lines.lines.left c.args.self.now (omega arith) c.in_ok-lines.ensures.replies
