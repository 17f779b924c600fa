use Rattle.mv_linker.proofs.Common.{◌∙◌, ◌≡◌, Kept, Name, Some, Texts, ap, arith, option_map, published_as, published_in, published_under, slice_get, sym, take_all}
use Rattle.std.specs.Map.Iter.{deref_pair}
use Rattle.mv_linker.proofs.Copies.{keyed-at, map-more}
use Rattle.mv_linker.proofs.store.entry.entries_copied.Goals as goal

pub loop-i-init : goal.loop-i-init
loop-i-init c = ap published_in c.in_ok-entries.ensures.items

pub entry_copied-requires : goal.entry_copied-requires
entry_copied-requires c =
    let es = c.args.modules.now.entries in
    let e : Name × Texts = (c.unwrap.result.0.now, c.unwrap.result.1.now) in
    let at : slice_get es c.loop-i.i ≡ Some e = sym c.get_index.ensures.entry ∙ ap (option_map deref_pair) c.unwrap.ensures in
    keyed-at es c.loop-i.i e c.requires at

pub loop-i-preserved : goal.loop-i-preserved
loop-i-preserved c =
    let es = c.args.modules.now.entries in
    let e : Name × Texts = (c.unwrap.result.0.now, c.unwrap.result.1.now) in
    let at : slice_get es c.loop-i.i ≡ Some e = sym c.get_index.ensures.entry ∙ ap (option_map deref_pair) c.unwrap.ensures in
    map-more (λ (x : Name × Texts). published_as x.1) (λ (k : Kept). k.published) es c.loop-i.entries.items c.push.new.self.items c.loop-i.i e c.in_ok-entry.entry c.loop-i.invariant at
    c.in_ok-push.ensures.items c.in_ok-entry.ensures

pub returns : goal.returns
returns c = c.loop-i.invariant ∙ ap published_under (take_all c.loop-i.i c.args.modules.now.entries (omega (arith, c.loop-i-test.false, c.len-i-end.ensures.len)))
