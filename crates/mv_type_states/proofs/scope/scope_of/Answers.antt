use Rattle.mv_type_states.proofs.Common.{◌∙◌, ◌≡◌, List, Some, ap, get_or, length, refl, slice_get, slice_get_read, FunctionDefinition}
use Rattle.mv_type_states.proofs.LocalLemmas.{local_tokens-are}
use Rattle.mv_type_states.proofs.scope.scope_of.Goals as goal

pub returns : goal.returns
returns c =
    let m = c.args.m.now in
    let d = c.index-functions-f.result in
    let same : c.functions.result.now ≡ m.functions = c.functions.ensures.value ∙ ap (λ m. m.functions) c.module.ensures.value in
    let is : d ≡ get_or m.functions c.args.f d = c.index-functions-f.is ∙ ap (λ (l : List FunctionDefinition). get_or l c.args.f d) same in
    let found : slice_get m.functions c.args.f ≡ Some d = slice_get_read m.functions (length m.functions) c.args.f d refl c.requires is in
    record {
      home = refl;
      function = found;
      scope = record {
        at = found;
        locals = local_tokens-are m c.args.f d c.parameters.result.now c.other_locals.result.now found c.parameters.ensures c.other_locals.ensures;
      };
    }
