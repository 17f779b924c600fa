use Rattle.mv_ledger.proofs.Common.{[], ◌∙◌, ◌∷◌, ◌≡◌, List, Some, ap, option_map, sym, tables_in, FlatEntry, LedgerView}
use Rattle.mv_move_types.specs.declared.tables.Key.{Key}
use Rattle.mv_storage.specs.FlatStorage.{words_under}
use Rattle.mv_ledger.specs.Formats.{format_of}
use Rattle.mv_ledger.specs.Marks.{held_marks}
use Rattle.mv_ledger.specs.Questions.{entry_of, key_in, shows}
use Rattle.mv_ledger.proofs.Asked.{entry, entry-here, one-under, published-is}
use Rattle.mv_ledger.proofs.Ledger.show_value.Goals as goal

pub returns : goal.returns
returns c =
    let self = c.self.inside in
    let v = c.args.self.now in
    let stored = self.storage.committed in
    let d = c.in_ok-definition.field-0 in
    let key = c.key_in-key.result in
    let words = c.in_ok-_words._words.now in
    let marks = held_marks self.published.marks self.storage.marks self.run_marks.items in
    let found : words_under stored key ≡ Some words = sym c.in_ok-_words.ensures in
    let one : c.value_at.result ≡ entry key words ∷ [] = c.value_at.ensures.value ∙ one-under (tables_in self.published.modules) key words stored c.self.invariant.0.sound.ascending found in
    let here : entry_of v c.args.address c.args.name.now ≡ Some (entry (key_in c.args.address d) words) =
    entry-here v c.published.inside.store stored (published-is _ self.published stored self.runs marks v c.published.view_is c.self.view_is) (sym (ap (λ (w : LedgerView). w.stored) c.self.view_is))
    c.args.address c.args.name.now d (sym c.in_ok-definition.ensures) (Some words) (ap (words_under stored) (sym c.key_in-key.ensures) ∙ found) in
    ap Some c.lines_of.ensures ∙ ap (λ (es : List FlatEntry). Some (shows v es (format_of c.args.format))) one
    ∙ ap (λ (k : Key). Some (shows v (entry k words ∷ []) (format_of c.args.format))) c.key_in-key.ensures
    ∙ sym (ap (option_map (λ (e : FlatEntry). shows v (e ∷ []) (format_of c.args.format))) here)
