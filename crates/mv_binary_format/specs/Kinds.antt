-- The kinds of tables by their bytes, and headers and tables of the code as those of the format.
use Rattle.std.specs.Prelude.{ℕ, List, map}
use Rattle.mv_binary_format.specs.declared.headers.TableKind.{TableKind}
use Rattle.mv_binary_format.specs.declared.headers.TableKind.TheVariants.{ModuleHandles, StructHandles, FunctionHandles, Signatures, Constants}
use Rattle.mv_binary_format.specs.declared.headers.TableKind.TheVariants.{Identifiers, Addresses, Structs, Functions, FieldHandles}
use Rattle.mv_binary_format.specs.declared.headers.Header.{Header as ReadHeader}
use Rattle.mv_binary_format.specs.ModuleText.{Header}

-- a kind's byte
abbrev pub table_code : TableKind → ℕ
table_code ModuleHandles = 0x01
table_code StructHandles = 0x02
table_code FunctionHandles = 0x03
table_code Signatures = 0x05
table_code Constants = 0x06
table_code Identifiers = 0x07
table_code Addresses = 0x08
table_code Structs = 0x0A
table_code Functions = 0x0C
table_code FieldHandles = 0x0D

-- a header as it was read
abbrev pub header_of : ReadHeader → Header
header_of h = record { kind = table_code h.kind; offset = h.offset; length = h.length }

-- headers as they were read
abbrev pub headers_of : List ReadHeader → List Header
headers_of = map header_of
