-- The modules of a scope.
use Rattle.std.specs.Prelude.{List}
use Rattle.mv_move_types.specs.Module.{Module}
pub use Rattle.mv_interface.specs.Handles.{IsFunctionIn, IsStructAt, IsFunctionAt, EachAt, AreStructsAt, AreFunctionsAt}
use Rattle.mv_link_rules.specs.Link.{tables_in}
use Rattle.mv_linker.specs.Scope.{with_tables, offered}
use Rattle.mv_linker.specs.declared.rules.scope.Scope.{Scope}

-- the modules of a scope
abbrev pub modules_in : Scope → List Module
modules_in s = with_tables (tables_in s.store.now) (offered s.new.now)
