use Rattle.mv_saved_text.proofs.Common.{◌≡◌, ◌∙◌, Some, ap, option_map, refl, subst, sym, err_from_is_err_and, Global, Vec, LeafKind}
use Rattle.mv_saved_text.specs.Layouts.{kinds_under}
use Rattle.mv_saved_text.specs.Parts.BodyParts.{leaves_from}
use Rattle.mv_ledger_state.specs.Unread.{IsUnread}
use Rattle.mv_ledger_state.specs.declared.unread.Unread.TheVariants.{Malformed}
use Rattle.mv_saved_text.proofs.Loads.Unreading.{entry-unread, entry-shapeless, made-none}
use Rattle.mv_saved_text.proofs.loading.values.entry.Goals as goal

pub returns-in_default-clause-refused : goal.returns-in_default-clause-refused
returns-in_default-clause-refused c =
    entry-shapeless c.args.layouts.now c.args.known c.args.reader.now c.address.new.self c.struct_at.new.reader c.in_ok-address.address c.in_ok-at.at c.in_ok-address.ensures c.in_ok-at.ensures.ok
    Malformed refl (made-none (λ (v : Vec LeafKind Global). v.items) c.in_ok-kinds.field-0 _ c.in_ok-kinds.ensures.kinds c.in_default.not-Some)

pub returns-in_err-value-clause-refused : goal.returns-in_err-value-clause-refused
returns-in_err-value-clause-refused c =
    let p = err_from_is_err_and c.from_residual-in_err-value.result c.from_residual-in_err-value.ensures.1 in
    let kinds : kinds_under c.args.layouts.now c.in_ok-at.at ≡ Some c.in-Some.kinds.items =
    sym c.in_ok-kinds.ensures.kinds ∙ ap (option_map (λ (v : Vec LeafKind Global). v.items)) c.in-Some.is in
    rw (p.1, p.2)
    (entry-unread c.args.layouts.now c.args.known c.args.reader.now c.address.new.self c.struct_at.new.reader c.in_ok-address.address c.in_ok-at.at c.in_ok-address.ensures c.in_ok-at.ensures.ok
    c.in_err-value.field-0.0 c.in-Some.kinds.items kinds
    (subst (λ ks. IsUnread (leaves_from ks) c.struct_at.new.reader c.in_err-value.field-0.0) c.deref.ensures.value c.in_err-value.ensures.refused))
