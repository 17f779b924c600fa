use Rattle.mv_ledger.proofs.loading.migrate.Goals as goal

pub returns-clause-new : goal.returns-clause-new
returns-clause-new c = c.second_form.ensures.new c.args.old.now c.in_ok-ledger.ensures.loaded

pub returns-clause-refused : goal.returns-clause-refused
returns-clause-refused c = c.second_form.ensures.refused c.args.old.now
