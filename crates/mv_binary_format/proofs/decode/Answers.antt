use Rattle.mv_binary_format.proofs.Common.{◌∙◌, arith, sym, none-some, IsModuleText, module_of}
use Rattle.mv_binary_format.proofs.Back.{all-are_bytes}
use Rattle.mv_binary_format.proofs.Takings.{IfOk-Decides, Decides-none}
use Rattle.mv_binary_format.proofs.decode.Goals as goal

pub returns-clause-text : goal.returns-clause-text
returns-clause-text c =
    IfOk-Decides (λ m. IsModuleText c.args.bytes.now m) (module_of c.args.bytes.now) c.read.result
    (λ m h. (c.modules_are_read_by_text.ensures c.args.bytes.now m (all-are_bytes c.args.bytes.now (λ i. omega (arith, c.type_inv.bytes i)))).0 h) c.read.ensures

pub returns-clause-none : goal.returns-clause-none
returns-clause-none c = λ is m t.
    none-some m (sym (Decides-none (module_of c.args.bytes.now) c.read.result is c.read.ensures)
    ∙ (c.modules_are_read_by_text.ensures c.args.bytes.now m (all-are_bytes c.args.bytes.now (λ i. omega (arith, c.type_inv.bytes i)))).1 t)
