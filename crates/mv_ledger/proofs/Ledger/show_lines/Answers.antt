use Rattle.mv_ledger.proofs.Common.{◌≡◌, Some, arith, subst, AsJson, AsText, ToldRefused, ToldLines, Replies, LedgerView, all_of, view_of, List, ℕ, ap, sym, format_text, ◌∙◌}
use Rattle.mv_ledger.specs.Marks.{held_marks, marked}
use Rattle.mv_ledger.proofs.Ledgers.{held-is, held-sound}
use Rattle.mv_ledger.proofs.Shows.Reports.{unasked_replies, show_replies}
use Rattle.mv_lines.specs.LinesView.{LinesView}
use Rattle.mv_ledger.proofs.Ledger.show_lines.Goals as goal

abbrev lines_in : LinesView → List (List ℕ)
lines_in l = l.left

pub returns-in_default-clause-replies : goal.returns-in_default-clause-replies
returns-in_default-clause-replies c =
    let held : LedgerView = marked (view_of c.self.inside.published.modules c.self.inside.storage.committed (all_of c.self.inside.published.tallies) c.self.inside.runs) (held_marks c.self.inside.published.marks c.self.inside.storage.marks c.self.inside.run_marks.items) in
    subst (λ (v : LedgerView). Replies 3 c.args.payload.now (Some (ToldRefused 1)) v v) c.self.view_is
    (unasked_replies 3 c.args.payload.now held (omega arith) c.in_default.ensures c.self.invariant.0.sound)

pub returns-in-Text-clause-replies : goal.returns-in-Text-clause-replies
returns-in-Text-clause-replies c =
    let held : LedgerView = marked (view_of c.published.inside.store c.self.inside.storage.committed (all_of c.published.inside.tallies) c.self.inside.runs) (held_marks c.self.inside.published.marks c.self.inside.storage.marks c.self.inside.run_marks.items) in
    let sound = held-sound _ c.self.inside.published c.self.inside.storage.committed c.self.inside.runs c.published.view_is c.self.invariant.0.sound in
    subst (λ (v : LedgerView). Replies 3 c.args.payload.now (Some (ToldLines c.of_storage.result.left)) v v) (held-is _ c.self.inside.published c.self.inside.storage.committed c.self.inside.runs c.published.view_is (held_marks c.self.inside.published.marks c.self.inside.storage.marks c.self.inside.run_marks.items) c.args.self.now c.self.view_is)
    (show_replies c.args.payload.now held AsText c.of_storage.result.left (rw c.in-Text.is at c.in-Some.ensures) sound (ap lines_in c.of_storage.ensures))

pub returns-in-Json-clause-replies : goal.returns-in-Json-clause-replies
returns-in-Json-clause-replies c =
    let held : LedgerView = marked (view_of c.published.inside.store c.self.inside.storage.committed (all_of c.published.inside.tallies) c.self.inside.runs) (held_marks c.self.inside.published.marks c.self.inside.storage.marks c.self.inside.run_marks.items) in
    let sound = held-sound _ c.self.inside.published c.self.inside.storage.committed c.self.inside.runs c.published.view_is c.self.invariant.0.sound in
    subst (λ (v : LedgerView). Replies 3 c.args.payload.now (Some (ToldLines c.json_of_storage.result.left)) v v) (held-is _ c.self.inside.published c.self.inside.storage.committed c.self.inside.runs c.published.view_is (held_marks c.self.inside.published.marks c.self.inside.storage.marks c.self.inside.run_marks.items) c.args.self.now c.self.view_is)
    (show_replies c.args.payload.now held AsJson c.json_of_storage.result.left (rw c.in-Json.is at c.in-Some.ensures) sound (ap lines_in c.json_of_storage.ensures))

pub returns-in-Text-clause-format : goal.returns-in-Text-clause-format
returns-in-Text-clause-format c =
    let asked : c.args.payload.now ≡ format_text AsText = rw c.in-Text.is at c.in-Some.ensures in
    asked ∙ ap (λ (l : LinesView). format_text l.format) (sym c.of_storage.ensures)

pub returns-in-Json-clause-format : goal.returns-in-Json-clause-format
returns-in-Json-clause-format c =
    let asked : c.args.payload.now ≡ format_text AsJson = rw c.in-Json.is at c.in-Some.ensures in
    asked ∙ ap (λ (l : LinesView). format_text l.format) (sym c.json_of_storage.ensures)
