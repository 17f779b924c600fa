use Rattle.mv_storage.proofs.Common.{◌==◌, ◌∙◌, ◌≡◌, ap, arith, FlatEntry, Key, key_cmp}
use Rattle.std.proofs.Common.{◌+◌, ap₂}
use Rattle.std.specs.List.{filter}
use Rattle.std.specs.declared.ops.Bound.TheVariants.{Excluded, Included, Unbounded}
use Rattle.std.specs.BTreeMap.Range.{range_contains}
use Rattle.std.proofs.lemmas.List.Elements.{filter_agree}
use Rattle.mv_storage.proofs.Ranges.{at-address, at-last, first_key}
use Rattle.mv_storage.proofs.storage.Storage.values_at.Goals as goal

pub returns-in-Some-clause-value : goal.returns-in-Some-clause-value
returns-in-Some-clause-value c =
    let next : c.in-Some.next ≡ c.args.address + 1 = grind (arith, c.in-Some.ensures) in
    c.entries.ensures.value
    ∙ ap₂ (λ (a b : Key). filter (λ (e : FlatEntry). range_contains key_cmp (Included a) (Excluded b) e.key) c.args.self.now.committed) c.first_at-first.ensures (c.first_at.ensures ∙ ap first_key next)
    ∙ filter_agree (λ (e : FlatEntry). range_contains key_cmp (Included (first_key c.args.address)) (Excluded (first_key (c.args.address + 1))) e.key) (λ (e : FlatEntry). e.key.address == c.args.address)
    (λ e. at-address c.args.address e.key) c.args.self.now.committed

pub returns-in-None-clause-value : goal.returns-in-None-clause-value
returns-in-None-clause-value c =
    c.entries-in-None.ensures.value
    ∙ ap (λ (a : Key). filter (λ (e : FlatEntry). range_contains key_cmp (Included a) Unbounded e.key) c.args.self.now.committed) c.first_at-first.ensures
    ∙ at-last c.args.address c.args.self.now.committed (grind (arith, c.in-None.ensures)) c.has_addresses.ensures
