use Rattle.mv_binary_format.proofs.Common.{[], ◌++◌, ◌+◌, ◌<◌, ◌∙◌, ◌∷◌, ◌≡◌, Err, ap, arith, length, subst, sym, common_steps, version_number, table_code, content_of, entries_of, tables_of}
use Rattle.std.proofs.lemmas.Bool.{false≢true}
use Rattle.mv_binary_format.proofs.Loops.{AllReads, AllReads-next, AllReads-stops}
use Rattle.mv_binary_format.proofs.Takings.{Takes-passes, entries-none}
use Rattle.mv_binary_format.proofs.contents.read_entries.Goals as goal

pub returns-in_err-entry : goal.returns-in_err-entry
returns-in_err-entry g c =
    let each = g.E.Entry.from (version_number c.args.version) in
    let lt : c.reading.counter < length c.new-reader.result = omega (arith, c.reading-test.true, ap length c.new-reader.ensures) in
    let start : c.new-reader.result ≡ content_of (table_code c.args.kind) (tables_of c.args.tables.now.items) = c.new-reader.ensures ∙ c.take_content-content.ensures.content in
    let r_is : c.from_residual.result ≡ Err c.in_err-entry.field-0.0 = grind (arith, common_steps) in
    Takes-passes _ (entries_of (table_code c.args.kind) each) _ _ (λ x. x) each c.reading.reader _ _ _ r_is c.in_err-entry.ensures (λ none.
    entries-none (table_code c.args.kind) each (tables_of c.args.tables.now.items) c.new-reader.result start
    (AllReads-stops each (length c.new-reader.result) c.reading.counter c.new-reader.result c.reading.entries.items c.reading.reader lt
    (λ h. false≢true (sym c.if-is_empty.false ∙ c.is_empty.ensures.1 h)) none c.reading.invariant))

pub reading-preserved : goal.reading-preserved
reading-preserved g c =
    let each = g.E.Entry.from (version_number c.args.version) in
    let lt : c.reading.counter < length c.new-reader.result = omega (arith, c.reading-test.true, ap length c.new-reader.ensures) in
    let pushed : c.push.new.self.items ≡ c.reading.entries.items ++ c.in_ok-entry.entry ∷ [] = grind (arith, common_steps) in
    subst (λ z. AllReads each (length c.new-reader.result) (c.reading.counter + 1) c.new-reader.result z c.read.new.reader) (sym pushed)
    (AllReads-next each (length c.new-reader.result) c.reading.counter c.new-reader.result c.reading.entries.items c.reading.reader c.in_ok-entry.entry c.read.new.reader lt
    (λ h. false≢true (sym c.if-is_empty.false ∙ c.is_empty.ensures.1 h)) c.in_ok-entry.ensures c.reading.invariant)
