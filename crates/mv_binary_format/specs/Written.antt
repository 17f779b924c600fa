-- What has been written of a module's tables.
use Rattle.std.specs.Prelude.{◌≡◌, ℕ, List, map, flat_map}
use Rattle.mv_binary_format.specs.declared.layout.WrittenHeader.{WrittenHeader}
use Rattle.mv_binary_format.specs.Kinds.{table_code}
use Rattle.mv_binary_format.specs.ModuleText.{Table, Header, headers_from, with_bytes}

-- a header to write
abbrev pub written_header : WrittenHeader → Header
written_header h = record { kind = table_code h.kind; offset = h.offset; length = h.length }

-- headers to write
abbrev pub written_headers : List WrittenHeader → List Header
written_headers = map written_header

-- the headers and the contents are these tables'
pub record AreOf (tables : List Table) (headers : List Header) (contents : List ℕ) : Type 0 where
  pub headers_are : headers ≡ headers_from 0 (with_bytes tables)
  pub contents_are : contents ≡ flat_map (λ t. t.content) (with_bytes tables)
