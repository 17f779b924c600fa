-- Tables of the code as those of the format.
use Rattle.std.specs.Prelude.{List, map}
use Rattle.mv_binary_format.specs.declared.contents.Table.{Table as ReadTable}
use Rattle.mv_binary_format.specs.Kinds.{table_code}
use Rattle.mv_binary_format.specs.ModuleText.{Table}

-- a table as it was read
abbrev pub table_of : ReadTable → Table
table_of t = record { kind = table_code t.kind; content = t.content.now }

-- tables as they were read
abbrev pub tables_of : List ReadTable → List Table
tables_of = map table_of
