use Rattle.mv_ledger.proofs.Common.{[], ◌∙◌, List, None, Option, ap, subst, sym, tables_in, unwrap_or, Tally}
use Rattle.std.specs.Prelude.{◌==◌, find}
use Rattle.mv_ledger.specs.Marks.{held_marks}
use Rattle.mv_ledger_state.specs.Tallying.{AreInOrder}
use Rattle.mv_ledger_state.proofs.Runs.ScarceTallies.{scarce-ordered}
use Rattle.mv_ledger_state.proofs.Common.{All-at}
use Rattle.mv_ledger.proofs.Asked.{list-none, list-some, published-is, tallies-are, tally-told, tally-untold}
use Rattle.mv_ledger.proofs.Ledger.tally.Goals as goal

pub returns-in_err-d : goal.returns-in_err-d
returns-in_err-d c =
    let self = c.self.inside in
    let tallies = tallies-are _ self.published self.storage.committed self.runs (held_marks self.published.marks self.storage.marks self.run_marks.items) c.args.self.now c.published.view_is c.self.view_is in
    rw c.from_residual.ensures
    (tally-untold c.published.inside.store c.published.inside.tallies c.published.invariant.0 c.args.name.now c.args.self.now tallies (sym c.in_err-d.ensures))

pub returns-in_err-tallies : goal.returns-in_err-tallies
returns-in_err-tallies c =
    let self = c.self.inside in
    let marks = held_marks self.published.marks self.storage.marks self.run_marks.items in
    let published = published-is _ self.published self.storage.committed self.runs marks c.args.self.now c.published.view_is c.self.view_is in
    let tallies = tallies-are _ self.published self.storage.committed self.runs marks c.args.self.now c.published.view_is c.self.view_is in
    let none = list-none c.lists.result.now c.published.inside.tallies c.in_ok-d.d.place c.lists.ensures c.in_err-tallies.ensures.lookup in
    rw c.from_residual-in_err-tallies.ensures
    (tally-told c.published.inside.store c.published.inside.tallies c.published.invariant.0 c.args.name.now c.in_ok-d.d (sym c.in_ok-d.ensures) c.args.self.now published tallies None
    (ap (λ (o : Option (List Tally)). find (λ (t : Tally). t.index == c.in_ok-d.d.index) (unwrap_or o [])) (sym none)))

pub tally_at-requires : goal.tally_at-requires
tally_at-requires c =
    let at = list-some c.lists.result.now c.published.inside.tallies c.in_ok-d.d.place c.lists.ensures c.in_ok-tallies.tallies c.in_ok-tallies.ensures.lookup in
    subst AreInOrder (sym c.deref.ensures.value)
    (All-at AreInOrder c.published.inside.tallies c.in_ok-d.d.place c.in_ok-tallies.tallies.now.items (scarce-ordered (tables_in c.published.inside.store) c.published.inside.tallies c.published.invariant.0.scarce) at)

pub returns : goal.returns
returns c =
    let self = c.self.inside in
    let d = c.in_ok-d.d in
    let marks = held_marks self.published.marks self.storage.marks self.run_marks.items in
    let published = published-is _ self.published self.storage.committed self.runs marks c.args.self.now c.published.view_is c.self.view_is in
    let tallies = tallies-are _ self.published self.storage.committed self.runs marks c.args.self.now c.published.view_is c.self.view_is in
    let at = list-some c.lists.result.now c.published.inside.tallies d.place c.lists.ensures c.in_ok-tallies.tallies c.in_ok-tallies.ensures.lookup in
    let by_index : List Tally → Option Tally = λ (ts : List Tally). find (λ (t : Tally). t.index == d.index) ts in
    tally-told c.published.inside.store c.published.inside.tallies c.published.invariant.0 c.args.name.now d (sym c.in_ok-d.ensures) c.args.self.now published tallies c.tally_at.result
    (c.tally_at.ensures ∙ ap by_index c.deref.ensures.value ∙ ap (λ (o : Option (List Tally)). by_index (unwrap_or o [])) (sym at))
