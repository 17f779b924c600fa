use Rattle.mv_ledger.proofs.Common.{◌^◌, ◌<◌, Global, Tally, Vec, audit_from, counts_json, length-map, map, tables_in, tallied}
use Rattle.mv_ledger.proofs.Common.{◌≡◌, [], ◌*◌, ◌∙◌, ◌∷◌, ◌≤◌, Some, ap, arith, length, subst, AsJson, AsText, ToldRefused, ToldLines, Replies, LedgerView, all_of, view_of, List, ℕ, sym, format_text}
use Rattle.mv_ledger.specs.Marks.{held_marks, marked}
use Rattle.mv_ledger.proofs.Ledgers.{held-is, held-sound}
use Rattle.mv_ledger_state.proofs.TalliedStores.{tallied-long}
use Rattle.mv_ledger.proofs.Shows.Reports.{unasked_replies, audit_replies, audit-lines, audit-json, few_tallies}
use Rattle.mv_lines.specs.LinesView.{LinesView}
use Rattle.mv_ledger.proofs.Ledger.audit_lines.Goals as goal

abbrev lines_in : LinesView → List (List ℕ)
lines_in l = l.left

pub returns-in_default-clause-replies : goal.returns-in_default-clause-replies
returns-in_default-clause-replies c =
    let held : LedgerView = marked (view_of c.self.inside.published.modules c.self.inside.storage.committed (all_of c.self.inside.published.tallies) c.self.inside.runs) (held_marks c.self.inside.published.marks c.self.inside.storage.marks c.self.inside.run_marks.items) in
    subst (λ (v : LedgerView). Replies 4 c.args.payload.now (Some (ToldRefused 1)) v v) c.self.view_is
    (unasked_replies 4 c.args.payload.now held (omega arith) c.in_default.ensures c.self.invariant.0.sound)

pub of_tallies-requires-clause-aligned : goal.of_tallies-requires-clause-aligned
of_tallies-requires-clause-aligned c = sym (length-map c.lists-tallies.result.now (λ (v : Vec Tally Global). v.items)) ∙ ap length c.lists-tallies.ensures ∙ tallied-long _ _ c.published.invariant.0

pub of_tallies-requires-clause-few : goal.of_tallies-requires-clause-few
of_tallies-requires-clause-few c =
    let most : length (all_of c.published.inside.tallies) ≤ 65536 * length c.published.inside.store = few_tallies c.published.inside.store c.published.inside.tallies c.published.invariant.0.store.passed
    c.published.invariant.0.scarce in
    subst (λ (ts : List (List Tally)). length (all_of ts) < 2 ^ 63) (sym c.lists-tallies.ensures) (omega (arith, most, c.published.invariant.0.few))

pub json_of_tallies-requires : goal.json_of_tallies-requires
json_of_tallies-requires c = sym (length-map c.lists-tallies.result.now (λ (v : Vec Tally Global). v.items)) ∙ ap length c.lists-tallies.ensures ∙ tallied-long _ _ c.published.invariant.0

pub returns-in-Text-clause-replies : goal.returns-in-Text-clause-replies
returns-in-Text-clause-replies c =
    let held : LedgerView = marked (view_of c.published.inside.store c.self.inside.storage.committed (all_of c.published.inside.tallies) c.self.inside.runs) (held_marks c.self.inside.published.marks c.self.inside.storage.marks c.self.inside.run_marks.items) in
    let sound = held-sound _ c.self.inside.published c.self.inside.storage.committed c.self.inside.runs c.published.view_is c.self.invariant.0.sound in
    subst (λ (v : LedgerView). Replies 4 c.args.payload.now (Some (ToldLines c.of_tallies.result.left)) v v) (held-is _ c.self.inside.published c.self.inside.storage.committed c.self.inside.runs c.published.view_is (held_marks c.self.inside.published.marks c.self.inside.storage.marks c.self.inside.run_marks.items) c.args.self.now c.self.view_is)
    (audit_replies c.args.payload.now held AsText c.of_tallies.result.left (rw c.in-Text.is at c.in-Some.ensures) sound (ap lines_in c.of_tallies.ensures ∙ ap (λ (ts : List (List Tally)). audit_from (map (tallied (tables_in c.published.inside.store)) (all_of ts)) 0) c.lists-tallies.ensures ∙ audit-lines held sound))

pub returns-in-Json-clause-replies : goal.returns-in-Json-clause-replies
returns-in-Json-clause-replies c =
    let held : LedgerView = marked (view_of c.published.inside.store c.self.inside.storage.committed (all_of c.published.inside.tallies) c.self.inside.runs) (held_marks c.self.inside.published.marks c.self.inside.storage.marks c.self.inside.run_marks.items) in
    let sound = held-sound _ c.self.inside.published c.self.inside.storage.committed c.self.inside.runs c.published.view_is c.self.invariant.0.sound in
    subst (λ (v : LedgerView). Replies 4 c.args.payload.now (Some (ToldLines c.json_of_tallies.result.left)) v v) (held-is _ c.self.inside.published c.self.inside.storage.committed c.self.inside.runs c.published.view_is (held_marks c.self.inside.published.marks c.self.inside.storage.marks c.self.inside.run_marks.items) c.args.self.now c.self.view_is)
    (audit_replies c.args.payload.now held AsJson c.json_of_tallies.result.left (rw c.in-Json.is at c.in-Some.ensures) sound
    (ap lines_in c.json_of_tallies.ensures ∙ ap (λ (ts : List (List Tally)). counts_json (map (tallied (tables_in c.published.inside.store)) (all_of ts)) ∷ []) c.lists-tallies.ensures
    ∙ ap (λ text. text ∷ []) (audit-json held sound)))

pub returns-in-Text-clause-format : goal.returns-in-Text-clause-format
returns-in-Text-clause-format c =
    let asked : c.args.payload.now ≡ format_text AsText = rw c.in-Text.is at c.in-Some.ensures in
    asked ∙ ap (λ (l : LinesView). format_text l.format) (sym c.of_tallies.ensures)

pub returns-in-Json-clause-format : goal.returns-in-Json-clause-format
returns-in-Json-clause-format c =
    let asked : c.args.payload.now ≡ format_text AsJson = rw c.in-Json.is at c.in-Some.ensures in
    asked ∙ ap (λ (l : LinesView). format_text l.format) (sym c.json_of_tallies.ensures)
