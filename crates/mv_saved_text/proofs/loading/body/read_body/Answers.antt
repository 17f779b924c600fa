use Rattle.mv_saved_text.proofs.Common.{[], ◌∙◌, List, ap, length, map, subst, sym, true≢false, err_from_is_err_and, Module, all_of, counts_of, form_of, tables_in}
use Rattle.mv_saved_text.specs.Parts.BodyParts.{storage_into}
use Rattle.mv_ledger_state.specs.Unread.{IsUnread}
use Rattle.mv_saved_text.proofs.Loads.Unreading.{storage-unread, body-left, left-over, more-left}
use Rattle.mv_saved_text.proofs.loading.body.read_body.Goals as goal

pub returns-in_err-storage-clause-refused : goal.returns-in_err-storage-clause-refused
returns-in_err-storage-clause-refused c =
    let p = err_from_is_err_and c.from_residual-in_err-storage.result c.from_residual-in_err-storage.ensures.1 in
    rw (p.1, p.2)
    (storage-unread (form_of c.args.form) (tables_in c.args.store.now) (length (all_of c.args.tallies.now)) c.args.reader.now c.read_all.new.reader (map counts_of (all_of c.read_all.new.all))
    c.in_err-storage.field-0.0 c.in_ok-read_all.ensures.ok
    (subst (λ (ms : List Module). IsUnread (storage_into ms (form_of c.args.form) []) c.read_all.new.reader c.in_err-storage.field-0.0) c.in_ok-layouts.ensures c.in_err-storage.ensures.refused))

pub returns-then-not-is_empty-clause-refused : goal.returns-then-not-is_empty-clause-refused
returns-then-not-is_empty-clause-refused c = λ more.
    left-over (form_of c.args.form) (tables_in c.args.store.now) (length (all_of c.args.tallies.now)) c.args.reader.now c.read_storage.new.reader
    (map counts_of (all_of c.read_all.new.all), c.in_ok-storage.storage.committed)
    (body-left (form_of c.args.form) (tables_in c.args.store.now) (length (all_of c.args.tallies.now)) c.args.reader.now c.read_all.new.reader c.read_storage.new.reader (map counts_of (all_of c.read_all.new.all))
    c.in_ok-storage.storage.committed c.in_ok-read_all.ensures.ok
    (ap (λ (ms : List Module). storage_into ms (form_of c.args.form) [] c.read_all.new.reader) (sym c.in_ok-layouts.ensures) ∙ c.in_ok-storage.ensures.ok))
    more (more-left c.read_storage.new.reader more (λ e. true≢false (sym (c.is_empty.ensures.1 e) ∙ c.if-not-is_empty.true)))
