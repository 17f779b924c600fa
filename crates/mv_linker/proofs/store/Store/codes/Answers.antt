use Rattle.mv_linker.proofs.Common.{◌∙◌, ap, program, program_of, published_under, tables_in}
use Rattle.mv_linker.proofs.LinkedCode.StoredCodes.{program-is}
use Rattle.mv_linker.proofs.store.Store.codes.Goals as goal

pub returns-clause-code : goal.returns-clause-code
returns-clause-code c =
    ap program c.deref.ensures.value
    ∙ program-is (tables_in (published_under c.self.inside.modules.entries)) c.self.inside.codes.items c.self.invariant.2 ∙ ap (λ s. program_of (tables_in s)) c.self.view_is
