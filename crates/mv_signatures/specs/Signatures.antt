-- What fields, signatures, locals, constants and entry functions may be.
--   may_be_field t            a field is no reference and no signer
--   handle_is_small m h       at most 16 parameters and 8 results
--   is_constant c             a constant is a leaf of exactly its length
--   are_entry_parameters ts   an optional first signer, and then leaves that a caller can give
--   entry_fits m d            an entry function has such parameters, and no results
--   WellSigned m              phase 5: all of these hold in the module, and functions have at most 64 locals
-- is_plain_argument and has_no_results are parts of these.
use Rattle.std.specs.Prelude.{ℕ, is_some, Bool, true, false, ◌&&◌, nat_le, length, slice_get, List, ◌∷◌, ◌==◌, not, ◌||◌, IsTrue}
use Rattle.std.specs.Option.{option_map_or}
use Rattle.std.specs.List.{list_all}
use Rattle.mv_move_types.specs.Limits.{most_locals, most_parameters, most_results}
use Rattle.mv_move_types.specs.declared.token.LeafKind.TheVariants.{Signer}
use Rattle.mv_move_types.specs.declared.token.ValueType.TheVariants.{OfLeaf}
use Rattle.mv_move_types.specs.declared.token.Token.{Token}
use Rattle.mv_move_types.specs.declared.token.Token.TheVariants.{Plain, Reference, MutableReference}
use Rattle.mv_move_types.specs.declared.tables.FunctionHandle.{FunctionHandle}
use Rattle.mv_move_types.specs.Numbers.{leaf_number}
use Rattle.mv_move_types.specs.Module.{Constant, Module, FunctionDefinition, parameter_tokens, StructDefinition}
use Rattle.mv_bound_rules.specs.Bounds.{local_count}

-- no reference and no signer
abbrev pub may_be_field : Token → Bool
may_be_field (Plain (OfLeaf Signer)) = false
may_be_field (Plain t) = true
may_be_field (Reference t) = false
may_be_field (MutableReference t) = false

-- at most 16 parameters and 8 results
abbrev pub handle_is_small : Module → FunctionHandle → Bool
handle_is_small m h =
    option_map_or (λ ts. nat_le (length ts) most_parameters) (slice_get m.signatures h.parameters) false
    && option_map_or (λ ts. nat_le (length ts) most_results) (slice_get m.signatures h.results) false

-- a leaf of its type, of exactly its length
abbrev pub is_constant : Constant → Bool
is_constant c = constant_of c.token c.bytes
  where
    constant_of : Token → List ℕ → Bool
    constant_of (Plain (OfLeaf kind)) bytes = is_some (leaf_number kind bytes)
    constant_of _ bytes = false

-- a leaf that a caller may give
abbrev pub is_plain_argument : Token → Bool
is_plain_argument (Plain (OfLeaf Signer)) = false
is_plain_argument (Plain (OfLeaf kind)) = true
is_plain_argument _ = false

-- an optional first signer, and then leaves
abbrev pub are_entry_parameters : List Token → Bool
are_entry_parameters (Plain (OfLeaf Signer) ∷ ts) = list_all is_plain_argument ts
are_entry_parameters ts = list_all is_plain_argument ts

-- a function gives nothing back
abbrev pub has_no_results : Module → FunctionDefinition → Bool
has_no_results m d =
    option_map_or (λ (h : FunctionHandle). option_map_or (λ ts. length ts == 0) (slice_get m.signatures h.results) false)
    (slice_get m.function_handles d.handle) false

-- an entry function has no results, and parameters that a caller can give
abbrev pub entry_fits : Module → FunctionDefinition → Bool
entry_fits m d = not d.is_entry || has_no_results m d && option_map_or are_entry_parameters (parameter_tokens m d) false

-- fields, signatures, locals, constants and entry functions are as they may be
pub record WellSigned (m : Module) : Type 0 where
  pub fields : IsTrue (list_all (λ (d : StructDefinition). list_all (λ f. may_be_field f.token) d.fields) m.structs)
  pub handles : IsTrue (list_all (handle_is_small m) m.function_handles)
  pub locals : IsTrue (list_all (λ d. nat_le (local_count m d) most_locals) m.functions)
  pub constants : IsTrue (list_all is_constant m.constants)
  pub entries : IsTrue (list_all (entry_fits m) m.functions)
