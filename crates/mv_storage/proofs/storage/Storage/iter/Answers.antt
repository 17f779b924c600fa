use Rattle.mv_storage.proofs.Common.{◌<◌, ◌∙◌, List, length, subst, FlatEntry}
use Rattle.std.proofs.Common.{◌^◌}
use Rattle.mv_storage.proofs.Ranges.{filter-all}
use Rattle.mv_storage.proofs.storage.Storage.iter.Goals as goal

pub returns-clause-value : goal.returns-clause-value
returns-clause-value c = c.entries.ensures.value ∙ filter-all _

pub returns-clause-few : goal.returns-clause-few
returns-clause-few c = subst (λ (es : List FlatEntry). length es < 2 ^ 63) (c.entries.ensures.value ∙ filter-all _) c.entries.ensures.few
