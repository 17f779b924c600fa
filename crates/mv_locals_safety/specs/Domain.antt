-- The availabilities of a function's locals as a domain of states.
--   Function                      a function, with the tables of its module
--   IsOfLocals m d locals         one availability for each local
--   locals_step m d at locals     what the instruction at a place makes of the availabilities
--   least_above a b, joined a b   the join of two availabilities, and of two states
--   locals_order m d              the availabilities of a function's locals, their order and steps
--   moved_out l locals            the availabilities after a move out of a local
--   is_droppable, may_stay        whether what a local may still hold may be left behind
--   Follows result new after      the new state is the one after, or a need fails
use Rattle.std.specs.Prelude.{◌≡◌, ⊤, ℕ, Bool, IsTrue, true, false, ◌-◌, List, [], length, map, zip, Option, Some, None, Result, Ok, Err, slice_get, slice_set}
use Rattle.std.specs.Option.{option_map_or}
use Rattle.mv_move_types.specs.declared.borrow.Availability.{Availability}
use Rattle.mv_move_types.specs.declared.borrow.Availability.TheVariants.{Unavailable, Available, Maybe}
use Rattle.mv_move_types.specs.Options.{◌>>=◌}
use Rattle.mv_move_types.specs.declared.token.Token.{Token}
use Rattle.mv_move_types.specs.Module.{Module, FunctionDefinition}
use Rattle.mv_bound_rules.specs.Bounds.{local_count}
use Rattle.mv_abilities.specs.Abilities.{token_abilities}
use Rattle.mv_type_rules.specs.TypesHold.{point_at}
use Rattle.mv_lattice.specs.declared.StepError.{StepError}
use Rattle.mv_lattice.specs.declared.StepError.TheVariants.{Need}
use Rattle.mv_lattice.specs.Order.{Order}
use Rattle.mv_certificate_rules.specs.LocalsRules.{locals_after, locals_leq, needs_available}

-- a function, and the tables of its module
pub record Function : Type 0 where
  pub home : Module
  pub function : FunctionDefinition

-- one availability a local
abbrev pub IsOfLocals : Module → FunctionDefinition → List Availability → Type 0
IsOfLocals m d locals = length locals ≡ local_count m d

-- what the instruction at a place makes of the availabilities
abbrev pub locals_step : Module → FunctionDefinition → ℕ → List Availability → Option (List Availability)
locals_step m d at locals = slice_get d.code at >>= λ i. locals_after (point_at m d []) i locals

-- the least availability above both
abbrev pub least_above : Availability → Availability → Availability
least_above Unavailable Unavailable = Unavailable
least_above Available Available = Available
least_above _ _ = Maybe

-- each joined with the one at its place
abbrev pub joined : List Availability → List Availability → List Availability
joined a b = map (λ p. least_above p.0 p.1) (zip a b)

-- the availabilities of a function's locals: a block may begin with any, and a search may state any
abbrev pub locals_order : Module → FunctionDefinition → Order (List Availability)
locals_order m d = record {
  size = length d.code;
  is_graph = λ g. ⊤;
  is_state = IsOfLocals m d;
  may_begin = λ s. ⊤;
  below = λ a b. IsTrue (locals_leq a b);
  joined = joined;
  steps = locals_step m d;
  is_small = λ s. ⊤;
}

-- the availabilities without the value of a local, which has to hold one
abbrev pub moved_out : ℕ → List Availability → Option (List Availability)
moved_out l locals = needs_available l locals >>= λ before. Some (slice_set before l Unavailable)

-- whether values of a type may be dropped
abbrev pub is_droppable : Module → Token → Bool
is_droppable m t = option_map_or (λ a. a.drop) (token_abilities m t) false

-- whether a local of this type may be left behind
abbrev pub may_stay : Module → Token → Availability → Bool
may_stay m t Unavailable = true
may_stay m t Available = is_droppable m t
may_stay m t Maybe = is_droppable m t

-- the new state is the one after, or a need fails where there is none; no step on availabilities takes memory
abbrev pub Follows : {S : Type 0} → Result (Unit {0}) StepError → S → Option S → Type 0
Follows (Ok done) new after = after ≡ Some new
Follows (Err e) new after = (e ≡ Need) × (after ≡ None)
