use Rattle.std.proofs.Common.{List, ℕ, ◌∙◌, arith, subst, sym}
use Rattle.std.proofs.lemmas.Result.{IfOk-weaker}
use Rattle.mv_binary_format.proofs.Back.{all-are_bytes}
use Rattle.moveledger.specs.Hexadecimal.{IsHexadecimal}
use Rattle.moveledger.proofs.Digits.{encode_lower-hexadecimal}
use Rattle.moveledger.proofs.Texts.{is_hexadecimal}
use Rattle.moveledger.proofs.proving.digits_of.Goals as goal

pub returns-clause-written : goal.returns-clause-written
returns-clause-written c =
    let bytes = c.args.bytes.now in
    let are = all-are_bytes bytes (λ i. omega (arith, c.type_inv.bytes i)) in
    IfOk-weaker c.encode.result _ _ (λ text h. h ∙ encode_lower-hexadecimal bytes are) c.encode.ensures

pub returns-clause-spelled : goal.returns-clause-spelled
returns-clause-spelled c =
    let bytes = c.args.bytes.now in
    let are = all-are_bytes bytes (λ i. omega (arith, c.type_inv.bytes i)) in
    IfOk-weaker c.encode.result _ _ (λ text h. subst (λ (t : List ℕ). IsHexadecimal t bytes) (sym (h ∙ encode_lower-hexadecimal bytes are)) (is_hexadecimal bytes are)) c.encode.ensures
