use Rattle.mv_saved_text.proofs.Common.{◌∙◌, ◌≡◌, Bool, subst, sym, true, is_keyed, PutsKinds, kinds_at}
use Rattle.mv_saved_text.proofs.Saves.LayoutParts.{keyed-there, put-false}
use Rattle.mv_saved_text.proofs.layouts.Layouts.kinds.Goals as goal

pub returns-else-there-clause-there : goal.returns-else-there-clause-there
returns-else-there-clause-there c =
    let keyed : is_keyed c.args.self.now c.args.d ≡ true = sym c.is_keyed.ensures ∙ c.if-not-is_keyed.false in
    let put = subst (λ (b : Bool). PutsKinds (kinds_at 8 c.args.self.now c.args.d) b c.new-kinds.result.items c.put_struct.new.kinds.items) c.if-there.false c.in_ok-there.ensures in
    absurd (keyed-there c.args.self.now c.len-modules.ensures.store c.args.d keyed (put-false (kinds_at 8 c.args.self.now c.args.d) c.new-kinds.result.items c.put_struct.new.kinds.items put))
