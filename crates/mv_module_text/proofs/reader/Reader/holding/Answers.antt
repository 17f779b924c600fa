use Rattle.std.proofs.Common.{◌≡◌, refl, ap, ◌∙◌, false, rules, option_map}
use Rattle.mv_move_types.specs.Versions.{version_number}
use Rattle.mv_module_text.proofs.Forms.{has_number, by_index-refuses, by_index-reads}
use Rattle.mv_module_text.proofs.reader.Reader.holding.Goals as goal

pub returns-in_err-index-in_default : goal.returns-in_err-index-in_default
returns-in_err-index-in_default c =
    let v = version_number c.args.version in
    let h : has_number v c.args.code ≡ false = search rules in
    by_index-refuses v c.args.code c.args.self.now c.index.new.self c.from_residual-in_err-index-in_default.result c.in_err-index-in_default.field-0.0 h c.requires c.in_err-index-in_default.ensures
    c.from_residual-in_err-index-in_default.ensures.1

pub returns-in-Some : goal.returns-in-Some
returns-in-Some c =
    let v = version_number c.args.version in
    let h : has_number v c.args.code ≡ false = search rules in
    by_index-reads v c.args.code c.args.self.now c.index.new.self c.in_ok-index-in_default.index c.indexed.result h c.requires c.in_ok-index-in_default.ensures (c.indexed.ensures v)
    ∙ ap (option_map (λ y. (y, c.index.new.self))) c.in-Some.is

pub returns-in-None : goal.returns-in-None
returns-in-None c =
    let v = version_number c.args.version in
    let h : has_number v c.args.code ≡ false = search rules in (
      refl,
      by_index-reads v c.args.code c.args.self.now c.index.new.self c.in_ok-index-in_default.index c.indexed.result h c.requires c.in_ok-index-in_default.ensures (c.indexed.ensures v)
          ∙ ap (option_map (λ y. (y, c.index.new.self))) c.in-None.is,
    )
