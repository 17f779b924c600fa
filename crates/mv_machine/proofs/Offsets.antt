-- Worked offsets of places, by computation.
use Rattle.mv_machine.proofs.Common.{[], ℕ, ◌∷◌, ◌≡◌, List, None, Option, Some, false, refl, true, Module, Number, Token, Plain, OfLeaf, OfStruct, U64}
use Rattle.mv_machine.specs.Offsets.{width, offset}

abbrev number : Token
number = Plain (OfLeaf (Number U64))

-- a struct P of two numbers, and a struct Q of a number, a P, and a number
abbrev nested : Module
nested = record {
  version = 5;
  module_handles = record { address = 0; name = 0 } ∷ [];
  struct_handles = record { «module» = 0; name = 1; abilities = record { copy = true; drop = true; store = true; key = false } } ∷ record { «module» = 0; name = 2; abilities = record { copy = true; drop = true; store = true; key = false } } ∷ [];
  function_handles = [];
  signatures = [];
  constants = [];
  identifiers = (77 ∷ []) ∷ (80 ∷ []) ∷ (81 ∷ []) ∷ (97 ∷ []) ∷ (98 ∷ []) ∷ (99 ∷ []) ∷ [];
  addresses = 1 ∷ [];
  structs = record { handle = 0; fields = record { name = 3; token = number } ∷ record { name = 4; token = number } ∷ [] }
      ∷ record { handle = 1; fields = record { name = 3; token = number } ∷ record { name = 4; token = Plain (OfStruct 0) } ∷ record { name = 5; token = number } ∷ [] } ∷ [];
  functions = [];
  field_handles = [];
  own = 0;
}

-- where a place in Q begins
abbrev in_q : List ℕ → Option ℕ
in_q = offset (nested ∷ []) (record { home = record { address = 1; name = 77 ∷ [] }; name = 81 ∷ [] })

all_of_q : width (nested ∷ []) nested (Plain (OfStruct 1)) ≡ Some 4
all_of_q = refl

q_itself : in_q [] ≡ Some 0
q_itself = refl

second_field : in_q (1 ∷ []) ≡ Some 1
second_field = refl

field_of_second : in_q (1 ∷ 1 ∷ []) ≡ Some 2
field_of_second = refl

third_field : in_q (2 ∷ []) ≡ Some 3
third_field = refl

in_a_number : in_q (0 ∷ 0 ∷ []) ≡ None
in_a_number = refl
