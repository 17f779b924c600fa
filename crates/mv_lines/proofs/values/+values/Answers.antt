use Rattle.mv_lines.proofs.Common.{◌++◌, ◌+◌, ◌<◌, ◌∙◌, ◌∷◌, ◌≡◌, List, Some, add-one, ap, arith, codes, drop, get_or, length, subst, sym, ℕ, drop-cons, Global, Vec, Boolean, value_text}
use Rattle.mv_lines.proofs.Common.{tables_in, Part, PutsText, part_from}
use Rattle.mv_interface.specs.declared.shapes.Part.TheVariants.{Leaf}
use Rattle.mv_lines.proofs.Shows.Fields.{HasPut-first, HasPut-later, extends-same, extends-more}
use Rattle.mv_lines.proofs.Shows.Structs.{puts_no_depth, puts_missing, puts_fields}
use Rattle.mv_lines.proofs.values.+values.Goals as goal
use Rattle.mv_lines.proofs.values.+values.Goals.{put_parts-then-i-gt0+in_ok-push, put_parts-else-i-gt0}

pub put_struct-returns-then-depth-eq0 : goal.put_struct-returns-then-depth-eq0
put_struct-returns-then-depth-eq0 k c =
    let text = c.args.text.now.items in
    record { value = puts_no_depth c.args.depth (tables_in c.args.store.now) c.args.d c.args.words.now text text c.if-depth-eq0.true; kept = extends-same text }

pub put_struct-returns-in_default : goal.put_struct-returns-in_default
put_struct-returns-in_default k c =
    let text = c.args.text.now.items in
    record { value = puts_missing c.args.depth (tables_in c.args.store.now) c.args.d c.args.words.now text text c.in_default.ensures.fields; kept = extends-same text }

pub put_struct-returns : goal.put_struct-returns
put_struct-returns k c =
    let old = c.args.text.now.items in
    let front = c.push.new.self.items in
    let most = c.put_parts.new.text.items in
    let new = c.push-2.new.self.items in
    record {
      value = puts_fields c.args.store.now c.in-Some.ensures.store c.args.depth c.args.d c.in-Some.parts.now c.args.words.now c.in_ok-rest.rest old front most new c.if-depth-eq0.false
          c.in-Some.ensures.fields c.in_ok-push.ensures.items c.in_ok-rest.ensures.value c.in_ok-push-2.ensures.items;
      kept = extends-more old front new (codes "{", c.in_ok-push.ensures.items) (extends-more front most new c.in_ok-rest.ensures.kept (codes "}", c.in_ok-push-2.ensures.items));
    }

pub put_parts-each-preserved : goal.put_parts-each-preserved
put_parts-each-preserved k c =
    let value = part_from (tables_in c.args.store.now) c.args.depth in
    let all : List Part = c.args.parts.now in
    let d : Part = Leaf Boolean in
    let f : Part = get_or all c.each.i d in
    let lt : c.each.i < length all = omega (arith, c.each-test.true) in
    let left : drop c.each.i all ≡ f ∷ drop (c.each.i + 1) all = drop-cons all c.each.i d lt ∙ ap (λ n. f ∷ drop n all) (sym (add-one c.each.i)) in
    let put : PutsText value_text (value f c.each.rest.now) (Some c.in-Some.more) c.if-i-gt0.text.items c.put_part.new.text.items = rw c.in-Some.is at c.in_ok-more.ensures.value in
    let P : List ℕ → Type 0 = λ l. PutsText value_text (value f c.each.rest.now) (Some c.in-Some.more) l c.put_part.new.text.items in
    elim c.if-i-gt0.branch [
      | put_parts-then-i-gt0+in_ok-push w ↦
          let text : c.if-i-gt0.text.items ≡ c.each.text.items ++ codes "," = ap (λ (v : Vec ℕ Global). v.items) w.text-is ∙ w.in_ok-push.ensures.items in
          HasPut-later value all c.each.i c.args.words.now c.each.rest.now c.args.text.now.items c.each.text.items f c.each.invariant left c.in-Some.more c.put_part.new.text.items
          (omega (arith, w.if-i-gt0.true)) (subst P text put)
      | put_parts-else-i-gt0 w ↦
          let text : c.if-i-gt0.text.items ≡ c.each.text.items = ap (λ (v : Vec ℕ Global). v.items) w.text-is in
          HasPut-first value all c.each.i c.args.words.now c.each.rest.now c.args.text.now.items c.each.text.items f c.each.invariant left c.in-Some.more c.put_part.new.text.items
          (omega (arith, w.if-i-gt0.false)) (subst P text put)
    ]
