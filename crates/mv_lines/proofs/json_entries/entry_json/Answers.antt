use Rattle.mv_lines.proofs.Common.{[], ◌∙◌, ◌≡◌, Entry, IsPlain, List, Module, PublishedModule, Some, subst, sym, tables_in, value_under}
use Rattle.serde_json.proofs.FreeTexts.{text_of_value}
use Rattle.serde_json.specs.Data.{Data}
use Rattle.serde_json.specs.Events.{SendsValue}
use Rattle.mv_lines.specs.Sending.{texts_data}
use Rattle.mv_lines.proofs.Shows.Objects.{members_whole, object_text}
use Rattle.mv_lines.proofs.Shows.Parted.{entry_data, entry_texts, plain-texts, same-entry}
use Rattle.mv_lines.proofs.Shows.Pieces.{plain-entry}
use Rattle.mv_lines.proofs.json_entries.entry_json.Goals as goal

pub parted-entry-requires-clause-plain : goal.parted-entry-requires-clause-plain
parted-entry-requires-clause-plain c =
    let published : List PublishedModule = c.args.store.now in
    let e : Entry = record { key = c.args.key; value = value_under (tables_in published) c.args.key c.args.words.now } in
    subst IsPlain (sym (c.deref.ensures.value ∙ c.in_ok-name.ensures.texts)) (plain-texts published c.len-len.ensures.store e)

pub returns-in-Ok : goal.returns-in-Ok
returns-in-Ok c =
    let modules : List Module = tables_in c.args.store.now in
    let e : Entry = record { key = c.args.key; value = value_under modules c.args.key c.args.words.now } in
    let entry = c.parted-entry.result in
    let same : texts_data entry.address.now entry.name.now entry.value.now ≡ entry_data modules e =
    same-entry modules e c.deref.result.now entry.address.now entry.name.now entry.value.now c.in_ok-name.name c.in_ok-name.value (c.deref.ensures.value ∙ c.in_ok-name.ensures.texts)
    c.in_ok-name.ensures.name c.in_ok-name.ensures.value c.parted-entry.ensures.address c.parted-entry.ensures.struct_name c.parted-entry.ensures.value in
    let sent = c.in-Ok.ensures.events in
    text_of_value (entry_data modules e) sent.0 c.in-Ok.json.items (subst (λ (d : Data). SendsValue d (Some []) sent.0) same sent.1) sent.2 (members_whole (entry_texts modules e))
    ∙ object_text (entry_texts modules e) (plain-entry c.args.store.now c.len-len.ensures.store e)
