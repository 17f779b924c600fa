use Rattle.mv_binary_format.proofs.Common.{subst, sym, IsModuleText}
use Rattle.std.proofs.lemmas.Result.{IfOk-weaker}
use Rattle.mv_binary_format.proofs.Ordered.{ordered_is_text, IfOk-both}
use Rattle.mv_binary_format.proofs.layout.encode.Goals as goal

pub returns-clause-text : goal.returns-clause-text
returns-clause-text c =
    IfOk-weaker c.write.result _ _ (λ v e. subst (λ z. IsModuleText z c.args.m.now) (sym e) (ordered_is_text c.args.m.now c.has_text.ensures)) c.write.ensures.ordered

pub returns-clause-read_back : goal.returns-clause-read_back
returns-clause-read_back c =
    IfOk-both c.write.result _ _ _ (λ v e are. (c.modules_are_read_by_text.ensures v.items c.args.m.now are).1 (subst (λ z. IsModuleText z c.args.m.now) (sym e) (ordered_is_text c.args.m.now c.has_text.ensures)))
    c.write.ensures.ordered c.write.ensures.bytes
