use Rattle.mv_interface.proofs.Common.{◌++◌, ◌∙◌, ◌∷◌, ◌≡◌, [], List, Span, ap, arith, length, length-append, list_all, map, subst, sym, true}
use Rattle.mv_interface.specs.Spans.{is_span_in, spanned}
use Rattle.mv_interface.proofs.SpanLemmas.{lists-pushed}
use Rattle.mv_interface.proofs.lists.Lists.push.Goals as goal

pub invariant_of-self-2 : goal.invariant_of-self-2
invariant_of-self-2 g c =
    let all = c.self.inside.all.items in
    let spans : List Span = c.reserve-2.new.self.items in
    let within : list_all (is_span_in all) spans ≡ true = subst (λ (ss : List Span). list_all (is_span_in all) ss ≡ true) (sym c.in_ok-reserve-2.ensures.items) c.self.invariant.0 in
    let grown = c.put_all.ensures.items ∙ ap (λ l. l ++ c.args.one.now) c.in_ok-reserve.ensures.items in (
      (lists-pushed all c.put_all.new.all.items c.args.one.now spans c.push_reserved.new.self.items _ within grown (omega (arith, c.len-first.ensures, c.in_ok-reserve.ensures.len)) (omega (arith, c.len-last.ensures)) c.push_reserved.ensures.items).within,
      omega (arith, c.self.invariant.1, c.requires.short, ap length grown, length-append all c.args.one.now, c.push_reserved.ensures.len, c.in_ok-reserve-2.ensures.len),
    )

pub returns : goal.returns
returns g c =
    let all = c.self.inside.all.items in
    let spans : List Span = c.reserve-2.new.self.items in
    let within : list_all (is_span_in all) spans ≡ true = subst (λ (ss : List Span). list_all (is_span_in all) ss ≡ true) (sym c.in_ok-reserve-2.ensures.items) c.self.invariant.0 in
    let grown = c.put_all.ensures.items ∙ ap (λ l. l ++ c.args.one.now) c.in_ok-reserve.ensures.items in
    (lists-pushed all c.put_all.new.all.items c.args.one.now spans c.push_reserved.new.self.items _ within grown (omega (arith, c.len-first.ensures, c.in_ok-reserve.ensures.len)) (omega (arith, c.len-last.ensures)) c.push_reserved.ensures.items).are
    ∙ ap (λ (ss : List Span). map (spanned all) ss ++ c.args.one.now ∷ []) c.in_ok-reserve-2.ensures.items ∙ ap (λ l. l ++ c.args.one.now ∷ []) c.self.view_is
