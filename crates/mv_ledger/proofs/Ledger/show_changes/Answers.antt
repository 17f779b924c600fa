use Rattle.mv_ledger.proofs.Common.{[], ◌∙◌, ◌∷◌, ap, sym, AsJson, List, PublishedModule, storage_of, tables_in}
use Rattle.mv_machine.specs.Lines.{show_json}
use Rattle.mv_lines.specs.Changed.{values_of}
use Rattle.mv_lines.specs.LinesView.{LinesView}
use Rattle.mv_lines.specs.declared.changed.Side.{Side}
use Rattle.mv_storage.specs.Difference.{Change}
use Rattle.mv_ledger.proofs.Asked.{published-is}
use Rattle.mv_ledger.specs.Marks.{held_marks}
use Rattle.mv_ledger.proofs.Ledger.show_changes.Goals as goal

-- a show of these values by these modules
abbrev lines-by : (side : Side) (changes : List Change) → List PublishedModule → LinesView
lines-by side changes ps = record { format = AsJson; left = show_json (tables_in ps) (storage_of (tables_in ps) (values_of side changes)) ∷ [] }

pub returns : goal.returns
returns c = λ older old e.
    let self = c.self.inside in
    let marks = held_marks self.published.marks self.storage.marks self.run_marks.items in
    let now = published-is _ self.published self.storage.committed self.runs marks c.args.self.now c.published.view_is c.self.view_is in
    (c.in_ok-changes.changes, c.in_ok-changes.ensures older old e, c.json_of_changes.ensures ∙ ap (lines-by c.args.side c.in_ok-changes.changes) (sym now))
