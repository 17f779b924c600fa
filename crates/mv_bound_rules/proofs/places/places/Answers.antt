use Rattle.mv_bound_rules.proofs.Common.{ℕ, ◌<◌, ◌∙◌, ◌≡◌, Bool, Global, List, None, Option, Some, Vec, ap, arith, false, get_or, length, not, refl, subst, sym, true, false≢true, get_or_read}
use Rattle.mv_bound_rules.proofs.Common.{take_all, none-some, ArePlaces}
use Rattle.std.specs.Option.{is_some}
use Rattle.std.proofs.lemmas.Grind.{get_or_default_zero}
use Rattle.mv_bound_rules.proofs.HandleLemmas.{places_new, places_kept, some_place}
use Rattle.mv_bound_rules.proofs.places.places.Goals.{then-handle-len+then-is_none, else-handle-len, else-handle-len-via-then-handle-len+else-is_none, else-handle-len-via-else-handle-len}
use Rattle.mv_bound_rules.proofs.places.places.Goals as goal

none_from : (o : Option ℕ) (r : Bool) → is_some o ≡ not r → r ≡ true → o ≡ None
none_from None r e h = refl
none_from (Some k) r e h = absurd (false≢true (sym (e ∙ ap not h)))

not_none : (o : Option ℕ) (r : Bool) → is_some o ≡ not r → r ≡ false → o ≡ None → ⊥
not_none None r e h none = false≢true (e ∙ ap not h)
not_none (Some k) r e h none = none-some k (sym none)

pub loop-i-preserved : goal.loop-i-preserved
loop-i-preserved c =
    let defined = c.args.defined.now in
    let places = c.loop-i.places.items in
    let i = c.loop-i.i in
    let at = c.from-handle.result in
    let n = c.args.handles in
    let p = c.loop-i.invariant in
    let low : i < length defined = c.loop-i-test.true in
    let is : at ≡ get_or defined i at = c.from-handle.ensures ∙ sym (get_or_default_zero defined i at low) in
    elim c.if-handle-len.branch [
      | then-handle-len+then-is_none w ↦
          let inside : at < length places = omega (arith, w.if-handle-len.true, c.len.ensures) in
          let free : get_or places at None ≡ None =
          sym (get_or_read places at w.index.result.now inside w.index.ensures None) ∙ none_from w.index.result.now w.is_none.result w.is_none.ensures w.if-is_none.true in
          places_new defined n i places c.if-handle-len.places.items at p low is (omega (arith, inside, p.len)) free (ap (λ (v : Vec (Option ℕ) Global). v.items) w.places-is)
      | else-handle-len w ↦
          places_kept defined n i places c.if-handle-len.places.items at p low is
          (elim w.else-handle-len.branch [
            | else-handle-len-via-then-handle-len+else-is_none w' ↦ λ l.
                let inside : at < length places = omega (arith, l, p.len) in
                some_place (get_or places at None) (λ e. not_none w'.index.result.now w'.is_none.result w'.is_none.ensures w'.if-is_none.false (get_or_read places at w'.index.result.now inside w'.index.ensures None ∙ e))
            | else-handle-len-via-else-handle-len w' ↦ λ l. absurd (omega (arith, l, w'.if-handle-len.false, c.len.ensures, p.len))
          ])
          (ap (λ (v : Vec (Option ℕ) Global). v.items) w.places-is)
    ]

pub returns : goal.returns
returns c =
    subst (λ (xs : List ℕ). ArePlaces xs c.args.handles c.loop-i.places.items) (take_all c.loop-i.i c.args.defined.now c.loop-i-test.false) c.loop-i.invariant
