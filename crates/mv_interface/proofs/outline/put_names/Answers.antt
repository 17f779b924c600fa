use Rattle.mv_interface.proofs.Common.{[], ℕ, ◌++◌, ◌∙◌, ◌∷◌, Boolean, Field, List, OfLeaf, Plain, ap, get_or, map, map-append, sym, take, take_all, take_more}
use Rattle.mv_interface.proofs.outline.put_names.Goals as goal

pub loop-field-init : goal.loop-field-init
loop-field-init c = c.requires

pub loop-field-preserved : goal.loop-field-preserved
loop-field-preserved c =
    let fields : List Field = c.args.fields.now in
    let i = c.loop-field.field-index in
    let d : Field = record { name = 0; token = Plain (OfLeaf Boolean) } in
    let name : Field → ℕ = λ f. f.name in
    c.in_ok-push.ensures.items ∙ ap (λ l. l ++ name (get_or fields i d) ∷ []) c.loop-field.invariant
    ∙ sym (ap (map name) (take_more fields i d c.loop-field-test.true) ∙ map-append name (take i fields) (get_or fields i d ∷ []))

pub returns : goal.returns
returns c = c.loop-field.invariant ∙ ap (map (λ (f : Field). f.name)) (take_all c.loop-field.field-index c.args.fields.now c.loop-field-test.false)
