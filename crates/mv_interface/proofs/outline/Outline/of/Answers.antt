use Rattle.mv_interface.proofs.Common.{◌∙◌, ◌≡◌, IsOutline, ap, map, names_by, outline_kept, struct_by, subst, sym}
use Rattle.mv_interface.proofs.OutlineLemmas.{outline-is, outline-none, outline_by}
use Rattle.mv_interface.proofs.outline.Outline.of.Goals as goal

pub returns : goal.returns
returns c = λ bounds.
    let m = c.args.m.now in
    let same : outline_kept c.in_ok-identifiers.identifiers c.in_ok-structs.structs.items c.in_ok-fields.fields c.in_ok-functions.functions.items ≡ outline_by m =
    ap (λ i. outline_kept i c.in_ok-structs.structs.items c.in_ok-fields.fields c.in_ok-functions.functions.items) c.in_ok-identifiers.ensures
    ∙ ap (λ s. outline_kept m.identifiers s c.in_ok-fields.fields c.in_ok-functions.functions.items) c.in_ok-structs.ensures.value
    ∙ ap (λ f. outline_kept m.identifiers (map (struct_by m) m.structs) f c.in_ok-functions.functions.items) c.in_ok-fields.ensures
    ∙ ap (outline_kept m.identifiers (map (struct_by m) m.structs) (map names_by m.structs)) c.in_ok-functions.ensures.value in
    subst (IsOutline m) (sym same) (outline-is m bounds)

pub returns-then-defines_nothing : goal.returns-then-defines_nothing
returns-then-defines_nothing c = λ bounds.
    let m = c.args.m.now in
    subst (IsOutline m) (sym c.new.ensures) (outline-none m (c.defines_nothing.ensures.structs c.if-defines_nothing.true) (c.defines_nothing.ensures.functions c.if-defines_nothing.true))
