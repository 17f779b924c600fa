-- Whether a function fits a handle, by the interface that is kept of its module.
--   one-named   a handle of a module names its own
--   kept-fits   the function is public or its own module's, and has the handle's types
use Rattle.mv_linker.proofs.Common.{ℕ, ◌&&◌, ◌>>=◌, ◌||◌, ◌∙◌, ◌≡◌, AreStructsAt, AreTypes, AreTypesOf, Definition, FunctionDefinition, FunctionHandle, Interface, IsInterface, IsOf, LinkedType}
use Rattle.mv_linker.proofs.Common.{List, Module, ModuleName, None, Option, Some, Token, ap, ap₂, arith, both_there, false, function_fits, have_one_name, is_module, is_public, module_name}
use Rattle.mv_linker.proofs.Common.{none-some, on_bind, option_map_or, own_name, parameter_tokens, refl, same_Some, same_module, same_signature, same_tags, signature_named, slice_get, slice_get_within, subst}
use Rattle.mv_linker.proofs.Common.{sym, tokens_named}
use Rattle.mv_move_types.specs.Module.{result_tokens}
use Rattle.mv_interface.specs.Outline.{FunctionOutline}
use Rattle.mv_interface.specs.TypesByDefinition.{are_types}
use Rattle.mv_linker.proofs.Lemmas.{element_at}
use Rattle.mv_interface.proofs.TypeTests.{same_types_is}
use Rattle.mv_linker.proofs.Joining.TypesCompared.{types-compared}

-- a handle of a module names its own
pub one-named : (m : Module) (h : ℕ) (n : Module) (home : ModuleName) → IsOf m h n home → have_one_name m n ≡ both_there same_module (module_name m h) (own_name m)
one-named m h n home of = by_name (own_name m) ∙ sym (ap (λ x. option_map_or (λ name. option_map_or (same_module name) (own_name m) false) x false) of.named)
  where
    by_name : (o : Option ModuleName) → option_map_or (λ name. is_module name n) o false ≡ option_map_or (same_module home) o false
    by_name None = refl
    by_name (Some x) = ap (λ p. option_map_or (λ own. same_module own x) p false) of.own

module _ (modules : List Module) (m n : Module) (structs : List Definition) (are : AreStructsAt modules m structs) where
  -- a signature against kept types
  signature-compared : (x : Option (List Token)) (us : List Token) (ks : List LinkedType) → AreTypes modules n us ks
      → option_map_or (λ ts. are_types structs ts ks) x false ≡ both_there same_tags (x >>= tokens_named m) (tokens_named n us)
  signature-compared None us ks is = refl
  signature-compared (Some ts) us ks is = types-compared modules m n structs are ts us ks is ∙ same_types_is m n ts us

  -- the same, where its place is known
  same-signature : (i j : ℕ) (us : List Token) (ks : List LinkedType) → slice_get n.signatures j ≡ Some us → AreTypes modules n us ks
      → option_map_or (λ ts. are_types structs ts ks) (slice_get m.signatures i) false ≡ same_signature m i n j
  same-signature i j us ks at is = signature-compared (slice_get m.signatures i) us ks is ∙ sym (ap (λ x. both_there same_tags (signature_named m i) (x >>= tokens_named n)) at)

  -- the handle of a definition whose types are kept
  record Typed (d : FunctionDefinition) (parameters results : List LinkedType) : Type 0 where
    own : FunctionHandle
    at : slice_get n.function_handles d.handle ≡ Some own
    parameter_types : List Token
    result_types : List Token
    parameters_at : slice_get n.signatures own.parameters ≡ Some parameter_types
    results_at : slice_get n.signatures own.results ≡ Some result_types
    parameters_are : AreTypes modules n parameter_types parameters
    results_are : AreTypes modules n result_types results

  typed : (d : FunctionDefinition) (ps rs : List LinkedType) → AreTypesOf modules n (parameter_tokens n d) ps → AreTypesOf modules n (result_tokens n d) rs → Typed d ps rs
  typed d ps rs p r =
      on_bind (slice_get n.function_handles d.handle) _ p.tokens p.there (λ own at parameters_at.
      on_bind (slice_get n.function_handles d.handle) _ r.tokens r.there (λ other other_at results_at.
      record {
        own = own;
        at = at;
        parameter_types = p.tokens;
        result_types = r.tokens;
        parameters_at = parameters_at;
        results_at = subst (λ (x : FunctionHandle). slice_get n.signatures x.results ≡ Some r.tokens) (same_Some other own (sym other_at ∙ at)) results_at;
        parameters_are = p.are;
        results_are = r.are;
      }))

  module _ (home : ModuleName) (handle : FunctionHandle) (kept : Interface) (of : IsOf m handle.module n home) (is : IsInterface modules n kept) (index : ℕ) (d : FunctionDefinition)
      (d_at : slice_get n.functions index ≡ Some d) where
    -- whether it may be called
    may-call : (option_map_or (λ (f : FunctionOutline). f.is_public) (slice_get kept.outline.functions index) false || both_there same_module (module_name m handle.module) (own_name m))
        ≡ (is_public d || have_one_name m n)
    may-call =
        let f = element_at kept.outline.functions index (let low = slice_get_within n.functions index d d_at in omega (arith, low, is.outline.functions.len)) in
        ap₂ (λ a b. a || b) (ap (λ x. option_map_or (λ (f : FunctionOutline). f.is_public) x false) f.1 ∙ sym (is.outline.functions.each index d f.0 d_at f.1).visible)
        (sym (one-named m handle.module n home of))

    pub kept-fits : (ps rs : List LinkedType) → slice_get kept.parameters index ≡ Some ps → slice_get kept.results index ≡ Some rs
        → ((option_map_or (λ (f : FunctionOutline). f.is_public) (slice_get kept.outline.functions index) false || both_there same_module (module_name m handle.module) (own_name m))
        && (option_map_or (λ ts. are_types structs ts ps) (slice_get m.signatures handle.parameters) false && option_map_or (λ ts. are_types structs ts rs) (slice_get m.signatures handle.results) false))
        ≡ function_fits m handle n d
    kept-fits ps rs ps_at rs_at =
        let t = typed d ps rs (is.parameters.each index d ps d_at ps_at) (is.results.each index d rs d_at rs_at) in
        ap₂ (λ a b. a && b) may-call
        (ap₂ (λ a b. a && b) (same-signature handle.parameters t.own.parameters t.parameter_types ps t.parameters_at t.parameters_are) (same-signature handle.results t.own.results t.result_types rs t.results_at t.results_are))
        ∙ ap (λ x. (is_public d || have_one_name m n)
        && option_map_or (λ (own : FunctionHandle). same_signature m handle.parameters n own.parameters && same_signature m handle.results n own.results) x false) (sym t.at)

    -- its types are there
    pub kept-parameters : slice_get kept.parameters index ≡ None → ⊥
    kept-parameters none =
        let x = element_at kept.parameters index (let low = slice_get_within n.functions index d d_at in omega (arith, low, is.parameters.len)) in
        none-some x.0 (sym none ∙ x.1)

    pub kept-results : slice_get kept.results index ≡ None → ⊥
    kept-results none =
        let x = element_at kept.results index (let low = slice_get_within n.functions index d d_at in omega (arith, low, is.results.len)) in
        none-some x.0 (sym none ∙ x.1)
