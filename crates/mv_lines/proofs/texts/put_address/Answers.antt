use Rattle.mv_lines.proofs.Common.{◌∙◌, ◌≡◌, ap, encode_lower}
use Rattle.mv_machine.specs.Lines.{address_text}
use Rattle.mv_lines.proofs.Shows.Digits.{address_digits, put_after}
use Rattle.mv_lines.proofs.texts.put_address.Goals as goal

pub returns : goal.returns
returns c =
    let digits : c.encode_to_slice.new.output ≡ address_text c.args.address = c.in-Ok.ensures.written ∙ ap encode_lower c.to_be_bytes.ensures ∙ address_digits c.args.address in
    put_after c.extend_from_slice.result c.args.text.now.items c.extend_from_slice.new.self.items _ (address_text c.args.address) c.extend_from_slice.ensures.items digits
