use Rattle.mv_bounds.proofs.Common.{ℕ, ◌∙◌, Bor, Global, List, Vec, ap, arith, map, take_all}
use Rattle.mv_bound_rules.proofs.Entries.{read_more, missing}
use Rattle.mv_bounds.proofs.duplicates.identifiers.Goals.{in-Some+in_ok-push, in_default}
use Rattle.mv_bounds.proofs.duplicates.identifiers.Goals as goal

pub loop-i-preserved : goal.loop-i-preserved
loop-i-preserved c =
    let text = λ (name : Bor (List ℕ)). name.now in
    elim c.match-identifier.branch [
      | in-Some+in_ok-push w ↦
          ap (λ (v : Vec (Bor (List ℕ)) Global). map text v.items) w.names-is ∙ ap (map text) w.in_ok-push.ensures.items
          ∙ read_more text c.loop-i.names.items c.args.m.now.identifiers c.loop-i.i w.in-Some.name c.loop-i.invariant w.in-Some.ensures
      | in_default w ↦ absurd (missing c.args.m.now.identifiers c.loop-i.i w.in_default.ensures (omega arith))
    ]

pub returns : goal.returns
returns c = c.loop-i.invariant ∙ take_all c.loop-i.i c.args.m.now.identifiers (omega arith)
