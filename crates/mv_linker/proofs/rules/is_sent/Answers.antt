use Rattle.mv_linker.proofs.Common.{◌==◌, ◌∙◌, ModuleName, Option, ap, false, option_map_or, sym}
use Rattle.mv_linker.proofs.rules.is_sent.Goals as goal

pub returns : goal.returns
returns c =
    ap (λ a. a == c.args.sender) c.address.ensures
    ∙ sym (ap (λ (o : Option ModuleName). option_map_or (λ (name : ModuleName). name.address == c.args.sender) o false) c.name-name.ensures.own)
