-- The names and the modes of files that take the place of others.
use Rattle.std.specs.Prelude.{ℕ, zero, suc, List, [], ◌++◌, Option, Some, None, bit_and, bit_or, codes, decimal, unwrap_or, ◌*◌}
use Rattle.std.specs.Path.{path_parent}

-- what the names of the program's own files begin with
abbrev pub own : List ℕ
own = codes ".moveledger-"

-- the file that is locked while a ledger of this name is saved
abbrev pub lock_name : List ℕ → List ℕ
lock_name name = codes ".moveledger-lock-" ++ name

-- the file that is to take the place of the ledger of this name
abbrev pub new_name : List ℕ → List ℕ
new_name name = codes ".moveledger-new-" ++ name

-- the names that a file may get which stays: the first is the base, and those that follow have a number behind it
abbrev pub numbered : List ℕ → ℕ → List ℕ
numbered base zero = base
numbered base (suc n) = base ++ codes "-" ++ decimal (suc n)

-- the first name by which a ledger stays beside the one that takes its place
abbrev pub previous_name : List ℕ → List ℕ
previous_name path = path ++ codes ".previous"

-- the first name by which a new ledger stays that can't have its place
abbrev pub unsaved_name : List ℕ → List ℕ
unsaved_name path = path ++ codes ".unsaved"

-- a folder by its name, where none is the folder that the program runs in
abbrev pub named_folder : List ℕ → List ℕ
named_folder [] = codes "."
named_folder name = name

-- the folder that a file lies in
abbrev pub folder_of : List ℕ → List ℕ
folder_of path = named_folder (unwrap_or (path_parent path) [])

-- The mode of a file while it is written: where one of this mode stood, what its owner may do with that, and nobody else may do
-- anything; where none stood, what the system leaves of the rights of all to read and write.
abbrev pub mode_while_written : Option ℕ → ℕ
mode_while_written (Some mode) = bit_and mode 0o700
mode_while_written None = 0o666

-- the mode of a lock's file: its owner may hold it, and who else may write the ledger; nobody may read it
abbrev pub lock_mode : ℕ → ℕ
lock_mode mode = bit_or 0o200 (bit_and mode 0o022)

-- the mode of a file whose group isn't that of the old one, which has this mode: the group may do no more than all others
abbrev pub mode_without_group : ℕ → ℕ
mode_without_group mode = bit_and mode (bit_or 0o707 (bit_and mode 0o007 * 8))
