use Rattle.mv_borrow_graph.proofs.Tables.{short_signature}
use Rattle.mv_borrow_graph.proofs.site.Site.signature.Goals as goal

pub returns-clause-short : goal.returns-clause-short
returns-clause-short c = short_signature (λ tokens. tokens.now) c.signature.result c.module.result.now.version c.module.result.now.signatures c.from.result c.signature.ensures.value c.signature.ensures.fits
