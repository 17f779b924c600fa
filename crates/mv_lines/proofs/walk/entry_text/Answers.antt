use Rattle.mv_lines.proofs.Common.{[], ◌++◌, ◌∙◌, ◌≡◌, List, ap, append_assoc, codes, ℕ, name_at, Definition, value_under, key_text, value_text, tables_in, key_name_text, key_value_text}
use Rattle.mv_machine.specs.Lines.{address_text}
use Rattle.mv_lines.proofs.walk.entry_text.Goals as goal

-- of a stored value
entry_put : (t0 t1 t2 t3 t4 t5 t6 address struct value : List ℕ) → t0 ≡ [] → t1 ≡ t0 ++ codes "at " → t2 ≡ t1 ++ address → t3 ≡ t2 ++ codes " " → t4 ≡ t3 ++ struct
    → t5 ≡ t4 ++ codes " " → t6 ≡ t5 ++ value → t6 ≡ codes "at " ++ address ++ codes " " ++ struct ++ codes " " ++ value
entry_put t0 t1 t2 t3 t4 t5 t6 address struct value p0 p1 p2 p3 p4 p5 p6 = rw (p6, p5, p4, p3, p2, p1, p0) (simp append_assoc)

pub returns : goal.returns
returns c =
    let modules = tables_in c.args.store.now in
    let words = c.args.words.now in
    entry_put c.in_ok-text.text.items c.extend_from_slice.new.self.items c.put_address.new.text.items c.push.new.self.items c.put_key.new.text.items c.push-2.new.self.items
    c.put_value.new.text.items (address_text c.args.key.address) (key_text modules c.args.key) (value_text (value_under modules c.args.key words))
    c.in_ok-text.ensures.items c.in_ok-extend_from_slice.ensures.items c.in_ok-put_address.ensures c.in_ok-push.ensures.items
    (c.in_ok-put_key.ensures ∙ ap (λ name. c.push.new.self.items ++ key_name_text name) (c.as_ref.ensures.value ∙ c.struct_at-name.ensures)) c.in_ok-push-2.ensures.items
    (c.in_ok-put_value.ensures ∙ ap (λ (d : Definition). c.push-2.new.self.items ++ key_value_text modules (name_at modules d.place d.index) words) c.definition_of.ensures)
