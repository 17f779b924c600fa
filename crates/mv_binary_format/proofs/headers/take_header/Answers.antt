use Rattle.mv_binary_format.proofs.Common.{◌==◌, ◌∙◌, ◌≡◌, Bool, None, Some, ap, option_map, sym, position, header_of, headers_of, begins_at}
use Rattle.mv_binary_format.specs.declared.headers.Header.{Header}
use Rattle.mv_binary_format.proofs.Taken.{find-map, without-map, first_at, none_at}
use Rattle.mv_binary_format.proofs.headers.take_header.Goals as goal

pub returns-in_err-i-clause-first : goal.returns-in_err-i-clause-first
returns-in_err-i-clause-first c =
    let xs = c.args.headers.now.items in
    let p : Header → Bool = λ h. h.offset == c.args.offset in
    let e : position p xs ≡ None = sym (ap (position p) c.deref.ensures.value) ∙ sym c.place_of.ensures ∙ c.in_err-i.was in
    rw c.from_residual.ensures (sym (find-map header_of (begins_at c.args.offset) xs ∙ ap (option_map header_of) (none_at p xs e)))

pub returns-clause-first : goal.returns-clause-first
returns-clause-first c =
    let xs = c.args.headers.now.items in
    let p : Header → Bool = λ h. h.offset == c.args.offset in
    let e : position p xs ≡ Some c.in_ok-i.i = sym (ap (position p) c.deref.ensures.value) ∙ sym c.place_of.ensures ∙ c.in_ok-i.was in
    let s = first_at p xs c.in_ok-i.i c.remove.result e c.remove.ensures.value in
    sym (find-map header_of (begins_at c.args.offset) xs ∙ ap (option_map header_of) s.0)

pub returns-clause-others : goal.returns-clause-others
returns-clause-others c =
    let xs = c.args.headers.now.items in
    let p : Header → Bool = λ h. h.offset == c.args.offset in
    let e : position p xs ≡ Some c.in_ok-i.i = sym (ap (position p) c.deref.ensures.value) ∙ sym c.place_of.ensures ∙ c.in_ok-i.was in
    let s = first_at p xs c.in_ok-i.i c.remove.result e c.remove.ensures.value in
    ap headers_of (c.remove.ensures.items ∙ sym s.1) ∙ sym (without-map header_of (begins_at c.args.offset) xs)
