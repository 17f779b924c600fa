-- The versions of the binary format by their numbers.
use Rattle.std.specs.Prelude.{ℕ}
use Rattle.mv_move_types.specs.declared.version.Version.{Version}
use Rattle.mv_move_types.specs.declared.version.Version.TheVariants.{Five, Six}

-- a version's number
abbrev pub version_number : Version → ℕ
version_number Five = 5
version_number Six = 6
