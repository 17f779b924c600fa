use Rattle.mv_saved_text.proofs.Common.{[], ◌++◌, ◌<◌, ◌∙◌, ap, arith, get_or, length, option_map_or, subst, ℕ, IfSome, Option, Definition, storage_of}
use Rattle.mv_saved_text.specs.Flowing.{values_text}
use Rattle.mv_saved_text.proofs.Saves.Steps.{found-at, values-done, values-go_on, values-past}
use Rattle.mv_saved_text.proofs.steps.values.Goals as goal

-- no struct
abbrev none : Definition
none = record { place = 0; index = 0 }

pub returns-then-i-keyed : goal.returns-then-i-keyed
returns-then-i-keyed c = λ s is.
    values-past c.args.layouts.now c.args.storage.now.committed s is c.keyed-keyed.result.now c.keyed-keyed.ensures c.args.i c.args.from c.new.result.items (omega (arith, c.if-i-keyed.true))
    c.new.ensures.items

pub returns-in-Some : goal.returns-in-Some
returns-in-Some c = λ s is.
    let ds = c.keyed-keyed.result.now in
    let lt : c.args.i < length ds = omega (arith, c.if-i-keyed.false) in
    let d : Definition = get_or ds c.args.i none in
    let stored = storage_of c.args.layouts.now c.args.storage.now.committed in
    values-go_on c.args.layouts.now c.args.storage.now.committed s is ds c.keyed-keyed.ensures c.args.i d c.args.from c.in-Some.next c.in_ok-text.field-0.text.items (found-at ds c.args.i none lt)
    (omega (arith, c.ranges.from.fits)) (subst (λ (o : Option ℕ). IfSome o (λ n. c.args.from < n)) c.in-Some.is c.in_ok-text.ensures.next)
    (c.in_ok-text.ensures.text ∙ ap (λ (o : Option ℕ). c.in_ok-text.field-0.text.items ++ option_map_or (values_text stored d) o []) c.in-Some.is)

pub returns-in-None : goal.returns-in-None
returns-in-None c = λ s is.
    let ds = c.keyed-keyed.result.now in
    let lt : c.args.i < length ds = omega (arith, c.if-i-keyed.false) in
    let d : Definition = get_or ds c.args.i none in
    let stored = storage_of c.args.layouts.now c.args.storage.now.committed in
    values-done c.args.layouts.now c.args.storage.now.committed s is ds c.keyed-keyed.ensures c.args.i d c.args.from c.in_ok-text.field-0.text.items (found-at ds c.args.i none lt)
    (c.in_ok-text.ensures.text ∙ ap (λ (o : Option ℕ). c.in_ok-text.field-0.text.items ++ option_map_or (values_text stored d) o []) c.in-None.is)
