use Rattle.mv_linker.proofs.Common.{Target, rules}
use Rattle.std.proofs.lemmas.Iterator.{YieldsList-from_map, YieldsList-from_slice, items_from_collect}
use Rattle.std.proofs.lemmas.Iterator.Consumers.{YieldsList-at}
use Rattle.mv_linker.proofs.rules.named_modules.places_of.Goals as goal

pub returns : goal.returns
returns c =
    items_from_collect c.collect.result c.collect.ensures.ran
    (YieldsList-from_map _ (λ (t : Target). t.place) (YieldsList-at c.map.ensures.source (YieldsList-from_slice c.args.targets.now cc))
    c.map.ensures.closure (λ x r q k. search rules))
