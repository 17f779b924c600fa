use Rattle.mv_interface.proofs.Common.{[], ◌++◌, ◌∙◌, ◌∷◌, ◌≡◌, ◌≤◌, Boolean, Field, List, OfLeaf, Part, Plain, ap, arith, get_or, length, part_by}
use Rattle.mv_interface.proofs.ShapeLemmas.{parts-all, parts-first, parts-more}
use Rattle.mv_interface.proofs.shapes.put_parts.Goals as goal

pub loop-field-init : goal.loop-field-init
loop-field-init c = record { so_far = parts-first c.args.structs.now c.args.parts.now.items c.args.fields.now; count = omega arith }

pub loop-field-preserved : goal.loop-field-preserved
loop-field-preserved c =
    let structs = c.args.structs.now in
    let fields : List Field = c.args.fields.now in
    let parts : List Part = c.loop-field.parts.items in
    let d : Field = record { name = 0; token = Plain (OfLeaf Boolean) } in
    let pushed : c.push.new.self.items ≡ parts ++ part_by structs (get_or fields c.loop-field.field-index d).token ∷ [] = c.in_ok-push.ensures.items ∙ ap (λ p. parts ++ p ∷ []) c.part_of.ensures in
    record {
      so_far = parts-more structs c.args.parts.now.items parts c.push.new.self.items fields c.loop-field.field-index d c.loop-field-test.true c.loop-field.invariant.so_far pushed;
      count = omega (arith, c.in_ok-push.ensures.len);
    }

pub returns-clause-parts : goal.returns-clause-parts
returns-clause-parts c =
    let all : length c.args.fields.now ≤ c.loop-field.field-index = omega (arith, c.loop-field-test.false) in
    parts-all c.args.structs.now c.args.parts.now.items c.loop-field.parts.items c.args.fields.now c.loop-field.field-index all c.loop-field.invariant.so_far
