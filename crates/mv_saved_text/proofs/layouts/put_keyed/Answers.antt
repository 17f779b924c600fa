use Rattle.mv_saved_text.proofs.Common.{◌<◌, ◌∙◌, ◌≤◌, ap, arith, length, Global, Vec, Definition, tables_in, structs_in}
use Rattle.mv_saved_text.proofs.Saves.KeyedIndices.{keyed-first, keyed-found, keyed-passed, keyed-all, structs-of}
use Rattle.mv_saved_text.proofs.layouts.put_keyed.Goals as goal
use Rattle.mv_saved_text.proofs.layouts.put_keyed.Goals.{then-is_keyed+in_ok-push, else-is_keyed}

pub each-init : goal.each-init
each-init c = λ m at. keyed-first m c.args.place c.args.keyed.now.items

pub overflow_cast-d : goal.overflow_cast-d
overflow_cast-d c = omega (arith, c.structs-i-end.ensures.few, c.each-test.true)

pub each-preserved : goal.each-preserved
each-preserved c = λ m at.
    let modules = tables_in c.args.store.now in
    let low : c.each.i < length m.structs = omega (arith, c.each-test.true, c.structs-i-end.ensures.count, ap (structs_in modules) c.from.ensures, structs-of modules m c.args.place at) in
    elim c.if-is_keyed.branch [
      | then-is_keyed+in_ok-push w ↦
          ap (λ (v : Vec Definition Global). v.items) w.keyed-is
          ∙ keyed-found modules m c.args.place at c.args.keyed.now.items c.each.i c.is_keyed.result low c.is_keyed.ensures c.each.keyed.items w.push.new.self.items w.if-is_keyed.true
          (c.each.invariant m at) w.in_ok-push.ensures.items
      | else-is_keyed w ↦
          ap (λ (v : Vec Definition Global). v.items) w.keyed-is
          ∙ keyed-passed modules m c.args.place at c.args.keyed.now.items c.each.i c.is_keyed.result low c.is_keyed.ensures c.each.keyed.items w.if-is_keyed.false (c.each.invariant m at)
    ]

pub returns : goal.returns
returns c = λ m at.
    let modules = tables_in c.args.store.now in
    let past : length m.structs ≤ c.each.i = omega (arith, c.each-test.false, c.structs-i-end.ensures.count, ap (structs_in modules) c.from.ensures, structs-of modules m c.args.place at) in
    keyed-all m c.args.place c.args.keyed.now.items c.each.keyed.items c.each.i past (c.each.invariant m at)
