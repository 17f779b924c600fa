-- Lists that stand in one list, one after the other.
--   spanned all s       the list that a span of it is
--   is_span_in all s    the span stands among the elements
use Rattle.std.specs.Prelude.{Bool, ◌&&◌, nat_le, List, length}
use Rattle.std.specs.List.{between}
use Rattle.mv_interface.specs.declared.lists.Span.{Span}

-- the list that a span is
abbrev pub spanned : {A : Type 0} → List A → Span → List A
spanned all s = between s.first s.last all

-- the span stands among the elements
abbrev pub is_span_in : {A : Type 0} → List A → Span → Bool
is_span_in all s = nat_le s.first s.last && nat_le s.last (length all)
