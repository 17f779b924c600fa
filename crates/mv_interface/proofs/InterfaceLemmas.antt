-- Interfaces of modules: that what is made of a module's tables is its interface, and what it says of a function.
--   interface-is    what is made of a module, by where the structs of its handles are defined
--   signature-at    what a call from outside asks of the function at an index
use Rattle.mv_interface.proofs.Common.{[], ℕ, ◌∙◌, ◌∷◌, ◌≡◌, AreParts, AreStructsAt, AreTypes, AreTypesOf, Definition, FunctionDefinition, InBounds, Interface, IsInterface, IsOutline}
use Rattle.mv_interface.proofs.Common.{IsSignatureAt, IsSignatureOf, IsType, List, Module, MutableReference, Option, Plain, Reference, Signature, Some, StructDefinition, Token, ap, arith}
use Rattle.mv_interface.proofs.Common.{map, parameter_tokens, parts_by, slice_get, slice_get_within, subst, sym, type_by, types_by, unwrap_or}
use Rattle.mv_move_types.specs.Module.{result_tokens}
use Rattle.mv_bound_rules.proofs.FunctionLemmas.{handle_below, signatures_below}
use Rattle.mv_interface.proofs.Each.{each-mapped}
use Rattle.mv_interface.proofs.ShapeLemmas.{part-is, parts-are}
use Rattle.mv_bound_rules.proofs.Entries.{element_at}

module _ (modules : List Module) (m : Module) (structs : List Definition) (are : AreStructsAt modules m structs) where
  type-is : (t : Token) → IsType modules m t (type_by structs t)
  type-is (Plain t) = part-is modules m structs are (Plain t)
  type-is (Reference t) = part-is modules m structs are (Plain t)
  type-is (MutableReference t) = part-is modules m structs are (Plain t)

  types-are : (tokens : List Token) → AreTypes modules m tokens (types_by structs tokens)
  types-are [] = tt
  types-are (t ∷ tokens) = (type-is t, types-are tokens)

  -- types that are there
  types-of : (o : Option (List Token)) (tokens : List Token) → o ≡ Some tokens → AreTypesOf modules m o (types_by structs (unwrap_or o []))
  types-of o tokens there = record {
    tokens = tokens;
    there = there;
    are = subst (λ ts. AreTypes modules m tokens (types_by structs ts)) (sym (ap (λ (x : Option (List Token)). unwrap_or x []) there)) (types-are tokens);
  }

  module _ (bounds : InBounds m) where
    parameters-of : (k : ℕ) (d : FunctionDefinition) → slice_get m.functions k ≡ Some d → AreTypesOf modules m (parameter_tokens m d) (types_by structs (unwrap_or (parameter_tokens m d) []))
    parameters-of k d at =
        let h = element_at m.function_handles d.handle (handle_below m bounds k d at).0 in
        let tokens = element_at m.signatures h.0.parameters (signatures_below m bounds d.handle h.0 h.1).0 in
        types-of (parameter_tokens m d) tokens.0 (rw h.1 tokens.1)

    results-of : (k : ℕ) (d : FunctionDefinition) → slice_get m.functions k ≡ Some d → AreTypesOf modules m (result_tokens m d) (types_by structs (unwrap_or (result_tokens m d) []))
    results-of k d at =
        let h = element_at m.function_handles d.handle (handle_below m bounds k d at).0 in
        let tokens = element_at m.signatures h.0.results (signatures_below m bounds d.handle h.0 h.1).1 in
        types-of (result_tokens m d) tokens.0 (rw h.1 tokens.1)

    pub interface-is : (i : Interface) → IsOutline m i.outline → i.parts ≡ map (λ (d : StructDefinition). parts_by structs d.fields) m.structs
        → i.parameters ≡ map (λ (d : FunctionDefinition). types_by structs (unwrap_or (parameter_tokens m d) [])) m.functions
        → i.results ≡ map (λ (d : FunctionDefinition). types_by structs (unwrap_or (result_tokens m d) [])) m.functions → IsInterface modules m i
    interface-is i outline parts parameters results = record {
      outline = outline;
      parts = rw parts (each-mapped (λ (d : StructDefinition) parts. AreParts modules m d.fields parts) (λ (d : StructDefinition). parts_by structs d.fields) m.structs (λ k d at. parts-are modules m structs are d.fields));
      parameters = rw parameters (each-mapped (λ (d : FunctionDefinition) types. AreTypesOf modules m (parameter_tokens m d) types) (λ (d : FunctionDefinition). types_by structs (unwrap_or (parameter_tokens m d) [])) m.functions parameters-of);
      results = rw results (each-mapped (λ (d : FunctionDefinition) types. AreTypesOf modules m (result_tokens m d) types) (λ (d : FunctionDefinition). types_by structs (unwrap_or (result_tokens m d) [])) m.functions results-of);
    }

-- what a call from outside asks of the function at an index
pub signature-at : (modules : List Module) (place index : ℕ) (m : Module) (i : Interface) (s : Signature) → slice_get modules place ≡ Some m → IsInterface modules m i → IsSignatureOf i index s
    → IsSignatureAt modules place index s
signature-at modules place index m i s at is of =
    let d = element_at m.functions index (omega (arith, slice_get_within i.outline.functions index of.function of.there, is.outline.functions.len)) in
    record {
      home = m;
      definition = d.0;
      there = at;
      defined = d.1;
      entry = (is.outline.functions.each index d.0 of.function d.1 of.there).entry ∙ of.entry;
      parameters = is.parameters.each index d.0 s.parameters.now d.1 of.parameters;
    }
