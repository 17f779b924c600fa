use Rattle.mv_bounds.proofs.Common.{ℕ, ◌∙◌, Global, Vec, ap, arith, map, token_code}
use Rattle.mv_bound_rules.proofs.Entries.{gather_asked, missing}
use Rattle.mv_bounds.proofs.duplicates.signature_codes.Goals.{in-Some+in_ok-token_codes+in_ok-push, in_default}
use Rattle.mv_bounds.proofs.duplicates.signature_codes.Goals as goal

pub loop-i-preserved : goal.loop-i-preserved
loop-i-preserved c =
    let codes = λ (list : Vec ℕ Global). list.items in
    elim c.match-signature.branch [
      | in-Some+in_ok-token_codes+in_ok-push w ↦
          ap (λ (v : Vec (Vec ℕ Global) Global). map codes v.items) w.lists-is ∙ ap (map codes) w.in_ok-push.ensures.items
          ∙ gather_asked codes (map token_code) c.loop-i.lists.items c.args.m.now.signatures c.loop-i.i w.in_ok-token_codes.field-0 w.in-Some.tokens.now c.loop-i.invariant w.in-Some.ensures.value w.in_ok-token_codes.ensures
      | in_default w ↦ absurd (missing c.args.m.now.signatures c.loop-i.i w.in_default.ensures.value (omega arith))
    ]
