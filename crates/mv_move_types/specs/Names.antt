-- Modules and structs by name. An address is the number that its 16 bytes are, big-endian.
use Rattle.std.specs.Prelude.{ℕ, List, Bool, ◌&&◌, ◌==◌}
use Rattle.std.specs.Str.{bytes_eq}

-- a module by its address and its identifier
pub record ModuleName : Type 0 where
  pub address : ℕ
  pub name : List ℕ

-- a struct by the module that defines it and its identifier there
pub record StructName : Type 0 where
  pub home : ModuleName
  pub name : List ℕ

-- whether two module names are one
abbrev pub same_module : ModuleName → ModuleName → Bool
same_module a b = (a.address == b.address) && bytes_eq a.name b.name

-- whether two struct names are one
abbrev pub same_struct : StructName → StructName → Bool
same_struct a b = same_module a.home b.home && bytes_eq a.name b.name
