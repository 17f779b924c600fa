-- Texts read by computation.
use Rattle.mv_binary_format.proofs.Common.{[], ℕ, ◌++◌, ◌∷◌, ◌≡◌, List, Some, refl, Module, uleb, ordered_text, contents_from, entries_of, header_from, module_from, module_of}
use Rattle.std.specs.Prelude.{replicate, codes}

one : List ℕ
one = replicate 15 0 ++ 1 ∷ []

empty_module : Module
empty_module = record {
  version = 6;
  module_handles = record { address = 0; name = 0 } ∷ [];
  struct_handles = [];
  function_handles = [];
  signatures = [];
  constants = [];
  identifiers = codes "M" ∷ [];
  addresses = 1 ∷ [];
  structs = [];
  functions = [];
  field_handles = [];
  own = 0;
}

empty_read : module_of (ordered_text empty_module) ≡ Some empty_module
unfolding module_of contents_from header_from module_from entries_of empty_module uleb
empty_read = refl
