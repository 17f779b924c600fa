-- What is written.
use Rattle.mv_move_types.specs.Module.{FunctionDefinition}
use Rattle.mv_module_text.specs.declared.writing.FunctionParts.{FunctionParts}

-- the function definition of these parts
abbrev pub definition : FunctionParts → FunctionDefinition
definition p =
    record { handle = p.handle; visibility = p.visibility; is_entry = p.is_entry; acquires = p.acquires.now; locals = p.locals; code = p.code.now }
