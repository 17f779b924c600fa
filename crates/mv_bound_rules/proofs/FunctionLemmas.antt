-- What a function's index leads to.
use Rattle.mv_bound_rules.proofs.Common.{[], ℕ, ◌++◌, ◌+◌, ◌<◌, ◌≡◌, IfSome, List, None, Option, Some, length, length-append, refl, sym, and_parts}
use Rattle.mv_bound_rules.proofs.Common.{ltb-true, slice_get, FunctionDefinition, Module, FunctionHandle, Token, InBounds, function_in, IsDefined}
use Rattle.mv_move_types.specs.Options.{◌>>=◌}
use Rattle.mv_move_types.specs.Module.{parameter_tokens, result_tokens, local_tokens, local_type}
use Rattle.mv_bound_rules.specs.Bounds.{function_handle_in, local_count}
use Rattle.mv_bound_rules.proofs.Entries.{all_at}

module _ (m : Module) (bounds : InBounds m) where
  -- a function names a handle of the table, and a signature
  pub handle_below : (f : ℕ) (d : FunctionDefinition) → slice_get m.functions f ≡ Some d → (d.handle < length m.function_handles) × (d.locals < length m.signatures)
  handle_below f d at =
      let all = all_at (function_in m) m.functions f d bounds.functions at in
      let three = and_parts _ _ all in
      let two = and_parts _ _ three.0 in
      let one = and_parts _ _ two.0 in
      (ltb-true _ _ one.0, ltb-true _ _ one.1)

  -- a function's handle leads to signatures
  pub signatures_below : (i : ℕ) (h : FunctionHandle) → slice_get m.function_handles i ≡ Some h → (h.parameters < length m.signatures) × (h.results < length m.signatures)
  signatures_below i h at =
      let all = all_at (function_handle_in m) m.function_handles i h bounds.function_handles at in
      let three = and_parts _ _ all in
      let two = and_parts _ _ three.0 in
      (ltb-true _ _ two.1, ltb-true _ _ three.1)

  pub is_defined : (f : ℕ) (d : FunctionDefinition) (h : FunctionHandle) → slice_get m.functions f ≡ Some d → slice_get m.function_handles d.handle ≡ Some h → IsDefined m f d h
  is_defined f d h at handle =
      let below = signatures_below d.handle h handle in
      record { definition = at; handle = handle; parameters = below.0; results = below.1; locals = (handle_below f d at).1 }

pub parameters_are : (m : Module) (f : ℕ) (d : FunctionDefinition) (h : FunctionHandle) (ts : List Token) → IsDefined m f d h
    → slice_get m.signatures h.parameters ≡ Some ts → IfSome (slice_get m.functions f) (λ d. parameter_tokens m d ≡ Some ts)
parameters_are m f d h ts is there = rw (is.definition, is.handle) there

pub results_are : (m : Module) (f : ℕ) (d : FunctionDefinition) (h : FunctionHandle) (ts : List Token) → IsDefined m f d h
    → slice_get m.signatures h.results ≡ Some ts → IfSome (slice_get m.functions f) (λ d. result_tokens m d ≡ Some ts)
results_are m f d h ts is there = rw (is.definition, is.handle) there

pub others_are : (m : Module) (f : ℕ) (d : FunctionDefinition) (h : FunctionHandle) (ts : List Token) → IsDefined m f d h
    → slice_get m.signatures d.locals ≡ Some ts → IfSome (slice_get m.functions f) (λ d. slice_get m.signatures d.locals ≡ Some ts)
others_are m f d h ts is there = rw is.definition there

-- parameters and other locals are all locals
pub tokens_are : (m : Module) (d : FunctionDefinition) (ps os : List Token) → parameter_tokens m d ≡ Some ps → slice_get m.signatures d.locals ≡ Some os → local_tokens m d ≡ Some (ps ++ os)
tokens_are m d ps os parameters others = by_handle (slice_get m.function_handles d.handle) parameters
  where
    by_handle : (o : Option FunctionHandle) → (o >>= λ h. slice_get m.signatures h.parameters) ≡ Some ps
        → (o >>= λ h. slice_get m.signatures h.parameters >>= λ parameters. slice_get m.signatures d.locals >>= λ others. Some (parameters ++ others)) ≡ Some (ps ++ os)
    by_handle None e = cc
    by_handle (Some h) e = rw (e, others) refl

pub count_is : (m : Module) (f : ℕ) (ps os : List Token) → IfSome (slice_get m.functions f) (λ d. parameter_tokens m d ≡ Some ps)
    → IfSome (slice_get m.functions f) (λ d. slice_get m.signatures d.locals ≡ Some os)
    → IfSome (slice_get m.functions f) (λ d. length ps + length os ≡ local_count m d)
count_is m f ps os parameters others = by_function (slice_get m.functions f) parameters others
  where
    by_function : (o : Option FunctionDefinition) → IfSome o (λ d. parameter_tokens m d ≡ Some ps)
        → IfSome o (λ d. slice_get m.signatures d.locals ≡ Some os) → IfSome o (λ d. length ps + length os ≡ local_count m d)
    by_function None p o = tt
    by_function (Some d) p o = rw (tokens_are m d ps os p o) (sym (length-append ps os))

pub local_is : (m : Module) (f l : ℕ) (ps os : List Token) (found : Option Token)
    → IfSome (slice_get m.functions f) (λ d. parameter_tokens m d ≡ Some ps)
    → IfSome (slice_get m.functions f) (λ d. slice_get m.signatures d.locals ≡ Some os) → found ≡ slice_get (ps ++ os) l
    → IfSome (slice_get m.functions f) (λ d. found ≡ local_type m d l)
local_is m f l ps os found parameters others is = by_function (slice_get m.functions f) parameters others
  where
    by_function : (o : Option FunctionDefinition) → IfSome o (λ d. parameter_tokens m d ≡ Some ps)
        → IfSome o (λ d. slice_get m.signatures d.locals ≡ Some os) → IfSome o (λ d. found ≡ local_type m d l)
    by_function None p o = tt
    by_function (Some d) p o = rw (tokens_are m d ps os p o) is
