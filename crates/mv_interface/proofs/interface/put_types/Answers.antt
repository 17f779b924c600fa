use Rattle.mv_interface.proofs.Common.{[], ◌++◌, ◌∙◌, ◌∷◌, Boolean, List, OfLeaf, Plain, Token, ap, get_or, map-append, sym, take, take_all, take_more, type_by, types_by}
use Rattle.mv_interface.proofs.interface.put_types.Goals as goal

pub loop-token-init : goal.loop-token-init
loop-token-init c = c.requires

pub loop-token-preserved : goal.loop-token-preserved
loop-token-preserved c =
    let structs = c.args.structs.now in
    let tokens : List Token = c.args.tokens.now in
    let i = c.loop-token.token-index in
    let d : Token = Plain (OfLeaf Boolean) in
    c.in_ok-push.ensures.items ∙ ap (λ l. l ++ c.type_of.result ∷ []) c.loop-token.invariant ∙ ap (λ x. types_by structs (take i tokens) ++ x ∷ []) c.type_of.ensures
    ∙ sym (ap (types_by structs) (take_more tokens i d c.loop-token-test.true) ∙ map-append (type_by structs) (take i tokens) (get_or tokens i d ∷ []))

pub returns : goal.returns
returns c = c.loop-token.invariant ∙ ap (types_by c.args.structs.now) (take_all c.loop-token.token-index c.args.tokens.now c.loop-token-test.false)
