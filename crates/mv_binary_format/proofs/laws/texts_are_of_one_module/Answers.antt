use Rattle.mv_binary_format.proofs.Common.{◌∙◌, sym, same_Some}
use Rattle.mv_binary_format.proofs.laws.texts_are_of_one_module.Goals as goal

pub returns : goal.returns
returns c = λ bytes m n are p q.
    same_Some m n (sym ((c.modules_are_read_by_text.ensures bytes m are).1 p) ∙ (c.modules_are_read_by_text.ensures bytes n are).1 q)
