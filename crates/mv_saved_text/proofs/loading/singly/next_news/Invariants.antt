use Rattle.mv_saved_text.proofs.Common.{AreTexts}
use Rattle.mv_saved_text.proofs.loading.singly.next_news.Given as goal

abbrev pub invariant-each : goal.invariant-each
invariant-each l = AreTexts l.news.items
