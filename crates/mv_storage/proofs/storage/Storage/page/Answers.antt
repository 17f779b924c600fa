use Rattle.mv_storage.proofs.Common.{◌∙◌, List, subst, sym, FlatEntry, Key, key_before, key_cmp}
use Rattle.std.proofs.Common.{not}
use Rattle.std.specs.declared.ops.Bound.TheVariants.{Included, Unbounded}
use Rattle.std.specs.BTreeMap.Range.{range_contains}
use Rattle.std.proofs.lemmas.List.Elements.{filter_agree}
use Rattle.mv_storage.specs.Pages.{page_of, IsPage}
use Rattle.mv_storage.proofs.Pages.{own_key, page-is}
use Rattle.mv_storage.proofs.Ranges.{from-key}
use Rattle.mv_storage.proofs.storage.Storage.page.Goals as goal

pub returns : goal.returns
returns c =
    let first : Key = own_key c.args.definition c.args.from in
    subst (λ (es : List FlatEntry). IsPage c.args.self.now.committed c.args.definition c.args.from c.args.most (page_of c.args.definition c.args.most es))
    (sym (c.entries.ensures.value ∙ filter_agree (λ (e : FlatEntry). range_contains key_cmp (Included first) Unbounded e.key) (λ (e : FlatEntry). not (key_before e.key first)) (λ e. from-key first e.key) c.args.self.now.committed))
    (page-is c.args.definition c.args.self.now.committed c.is_ascending.ensures c.has_addresses.ensures c.args.from c.args.most)
