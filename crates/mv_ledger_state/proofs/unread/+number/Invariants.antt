use Rattle.mv_ledger_state.proofs.unread.+number.Given as goal

abbrev pub decreases-number : goal.decreases-number
decreases-number l = l.most
