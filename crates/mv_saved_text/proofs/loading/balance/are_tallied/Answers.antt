use Rattle.mv_saved_text.proofs.Common.{◌<◌, ◌^◌, List, arith, subst, sym, All, Module, tables_in, IsFineWords, AreAll, all_of}
use Rattle.mv_saved_text.proofs.Loads.TalliesCounted.{tallies-so, tallies-back}
use Rattle.mv_ledger_state.proofs.TalliedStores.{tallied-named}
use Rattle.mv_saved_text.proofs.loading.balance.are_tallied.Goals as goal

pub all_counts-requires : goal.all_counts-requires
all_counts-requires c = subst (λ (ms : List Module). All (IsFineWords ms) c.args.storage.now.committed) (sym c.in_ok-layouts.ensures) c.requires.stored

pub returns : goal.returns
returns c =
    let ms = tables_in c.args.store.now in
    let are = subst (λ (l : List Module). AreAll l c.args.storage.now.committed c.in_ok-counts.counts) c.in_ok-layouts.ensures c.in_ok-counts.ensures in
    let named = tallied-named c.args.store.now c.args.tallies.now c.requires.held in
    let few : c.args.runs < 2 ^ 64 = omega arith in (
      λ e. tallies-so ms c.args.storage.now.committed c.in_ok-counts.counts c.args.runs are few (all_of c.args.tallies.now) named (c.are_all_counted.ensures.0 e),
      λ h. c.are_all_counted.ensures.1 (tallies-back ms c.args.storage.now.committed c.in_ok-counts.counts c.args.runs are few (all_of c.args.tallies.now) named h),
    )
