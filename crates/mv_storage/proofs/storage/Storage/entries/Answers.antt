use Rattle.mv_storage.proofs.Common.{ap}
use Rattle.mv_storage.proofs.Ranges.{entries-are, entries-few}
use Rattle.mv_storage.proofs.storage.Storage.entries.Goals as goal

pub returns-clause-value : goal.returns-clause-value
returns-clause-value g c = entries-are _ _ c.self.inside.work.places _ _ _ c.as_slice.ensures.value (c.range.ensures.between c.requires.known) (ap (λ l. l.committed) c.self.view_is)

pub returns-clause-few : goal.returns-clause-few
returns-clause-few g c = entries-few _ _ c.range.ensures.fits
