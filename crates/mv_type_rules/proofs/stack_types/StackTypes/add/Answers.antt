use Rattle.mv_type_rules.proofs.Common.{[], ◌++◌, ◌+◌, ◌∙◌, ◌∷◌, ◌≡◌, ap, arith, length, length-append, reverse, Token, types_of_each}
use Rattle.mv_type_rules.proofs.PartLemmas.{types_of_each-add}
use Rattle.mv_type_rules.proofs.stack_types.StackTypes.add.Goals as goal

pub returns : goal.returns
returns c =
    let old = c.self.inside in
    let tokens = c.in_ok-append.ensures.ok in
    let parts = c.in_ok-push.ensures.items in
    let start : c.len-start.result ≡ length old.tokens.items = let same = old.tokens.ok.0 in omega (arith, c.len-start.ensures) in
    let end : c.len-end.result ≡ length old.tokens.items + length c.args.stack.now =
    let same = c.append.new.tokens.ok.0 in omega (arith, c.len-end.ensures, ap length tokens, length-append {A = Token}) in
    let all : types_of_each c.append.new.tokens.items c.push.new.self.items ≡ types_of_each old.tokens.items old.parts.items ++ reverse c.args.stack.now ∷ [] =
    rw (tokens, parts) (types_of_each-add old.tokens.items c.args.stack.now old.parts.items _ c.self.invariant start end) in
    all ∙ ap (λ types. types ++ reverse c.args.stack.now ∷ []) c.self.view_is
