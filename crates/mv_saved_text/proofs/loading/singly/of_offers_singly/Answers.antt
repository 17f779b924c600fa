use Rattle.mv_saved_text.proofs.Common.{subst, sym, offers_of, AreNotJoined}
use Rattle.mv_saved_text.proofs.Loads.LoadedModules.{not-passed}
use Rattle.mv_saved_text.proofs.loading.singly.of_offers_singly.Goals as goal

pub returns-in-Err-clause-refused : goal.returns-in-Err-clause-refused
returns-in-Err-clause-refused c =
    subst (AreNotJoined (offers_of c.args.offers.now)) (sym c.because.ensures) (not-passed (offers_of c.args.offers.now) c.in-Err.refusal c.in-Err.ensures.refused)
