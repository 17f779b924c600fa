use Rattle.mv_bounds.proofs.Common.{◌∙◌, ap, length-append, refl, sym, slice_get}
use Rattle.mv_bound_rules.proofs.Entries.{got, missed}
use Rattle.mv_bounds.proofs.indices.local_count.Goals as goal

pub returns-in_default : goal.returns-in_default
returns-in_default c =
    let m = c.args.m.now in
    rw (missed m.function_handles _ c.args.d.now.handle _ c.function_handles.ensures (c.from.ensures ∙ c.handle.ensures) c.in_default.ensures.lookup) refl

pub returns-in_default-signature : goal.returns-in_default-signature
returns-in_default-signature c =
    let m = c.args.m.now in
    let handle = got m.function_handles _ c.args.d.now.handle _ c.in-Some.handle c.function_handles.ensures (c.from.ensures ∙ c.handle.ensures) c.in-Some.ensures.lookup in
    let parameters = ap (slice_get m.signatures) (sym c.from-2.ensures) ∙ sym c.in_default-signature.ensures.value in
    rw (handle, parameters) refl

pub returns-in_default-signature-2 : goal.returns-in_default-signature-2
returns-in_default-signature-2 c =
    let m = c.args.m.now in
    let handle = got m.function_handles _ c.args.d.now.handle _ c.in-Some.handle c.function_handles.ensures (c.from.ensures ∙ c.handle.ensures) c.in-Some.ensures.lookup in
    let parameters = ap (slice_get m.signatures) (sym c.from-2.ensures) ∙ sym c.in-Some-signature.ensures.value in
    let others = ap (slice_get m.signatures) (sym (c.from-3.ensures ∙ c.locals.ensures)) ∙ sym c.in_default-signature-2.ensures.value in
    rw (handle, parameters, others) refl

pub returns : goal.returns
returns c =
    let m = c.args.m.now in
    let handle = got m.function_handles _ c.args.d.now.handle _ c.in-Some.handle c.function_handles.ensures (c.from.ensures ∙ c.handle.ensures) c.in-Some.ensures.lookup in
    let parameters = ap (slice_get m.signatures) (sym c.from-2.ensures) ∙ sym c.in-Some-signature.ensures.value in
    let others = ap (slice_get m.signatures) (sym (c.from-3.ensures ∙ c.locals.ensures)) ∙ sym c.in-Some-signature-2.ensures.value in
    rw (handle, parameters, others, length-append) refl
