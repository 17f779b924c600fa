use Rattle.mv_linker.proofs.Common.{◌∙◌, sym}
use Rattle.mv_linker.proofs.Joining.NamedThere.{able, is-struct, matched, missing, nameless}
use Rattle.mv_linker.proofs.rules.named_structs.struct_in.Goals as goal

pub returns-in_err-name-clause-found : goal.returns-in_err-name-clause-found
returns-in_err-name-clause-found c n home of is = rw c.from_residual.ensures (nameless c.args.m.now c.args.handle n home of c.args.outline.now is (sym c.in_err-name.ensures))

pub returns-in_err-index-clause-found : goal.returns-in_err-index-clause-found
returns-in_err-index-clause-found c n home of is =
    rw c.from_residual-in_err-index.ensures (missing c.args.m.now c.args.handle n home of c.args.outline.now is c.in_ok-name.name.now (sym c.in_ok-name.ensures) c.in_err-index.ensures.found)

pub returns-in_err-abilities-clause-found : goal.returns-in_err-abilities-clause-found
returns-in_err-abilities-clause-found c n home of is =
    absurd (able c.args.outline.now c.in_ok-index.index c.in_ok-name.name.now c.in_ok-index.ensures.found c.in_err-abilities.ensures)

pub returns-then-are_same-clause-found : goal.returns-then-are_same-clause-found
returns-then-are_same-clause-found c n home of is = (
  matched c.args.m.now c.args.handle n home of c.args.outline.now is c.in_ok-name.name.now c.in_ok-index.index c.in_ok-abilities.abilities (sym c.in_ok-name.ensures) c.in_ok-index.ensures.found
      c.in_ok-abilities.ensures ∙ sym c.are_same.ensures ∙ c.if-are_same.true,
  is-struct c.args.m.now c.args.handle n home of c.args.outline.now is c.in_ok-name.name.now c.in_ok-index.index (sym c.in_ok-name.ensures) c.in_ok-index.ensures.found,
)

pub returns-else-are_same-clause-found : goal.returns-else-are_same-clause-found
returns-else-are_same-clause-found c n home of is =
    matched c.args.m.now c.args.handle n home of c.args.outline.now is c.in_ok-name.name.now c.in_ok-index.index c.in_ok-abilities.abilities (sym c.in_ok-name.ensures) c.in_ok-index.ensures.found
    c.in_ok-abilities.ensures ∙ sym c.are_same.ensures ∙ c.if-are_same.false
