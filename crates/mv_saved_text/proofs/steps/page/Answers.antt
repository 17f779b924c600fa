use Rattle.mv_saved_text.proofs.Common.{◌∙◌, ap, append-nil, is_some, option_map, sym, Global, Vec, LeafKind, Some}
use Rattle.mv_saved_text.proofs.Saves.Steps.{own-absent, own-leaves, page-so}
use Rattle.mv_saved_text.proofs.steps.page.Goals as goal

pub returns-in_default-clause-text : goal.returns-in_default-clause-text
returns-in_default-clause-text c =
    own-absent c.args.layouts.now c.args.storage.now.committed c.len-modules.ensures.store c.requires c.args.d c.args.from (sym (ap is_some c.in_default.is) ∙ c.in_ok-kinds.ensures.there)
    ∙ sym (append-nil c.new.result.items ∙ c.new.ensures.items)

pub page_with-requires : goal.page_with-requires
page_with-requires c =
    own-leaves c.args.layouts.now c.args.storage.now.committed c.len-modules.ensures.store c.requires c.args.d c.deref.result.now
    (ap Some c.deref.ensures.value ∙ sym (ap (option_map (λ (v : Vec LeafKind Global). v.items)) c.in-Some.is) ∙ c.in_ok-kinds.ensures.kinds)

pub returns-clause-text : goal.returns-clause-text
returns-clause-text c =
    page-so c.page_with.result c.args.layouts.now c.args.storage.now.committed c.len-modules.ensures.store c.requires c.args.d c.deref.result.now c.args.from
    (ap Some c.deref.ensures.value ∙ sym (ap (option_map (λ (v : Vec LeafKind Global). v.items)) c.in-Some.is) ∙ c.in_ok-kinds.ensures.kinds) c.page_with.ensures.text
