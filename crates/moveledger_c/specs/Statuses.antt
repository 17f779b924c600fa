-- The statuses that C reads, by their numbers.
--   done, refused, load_refused, too_complex   0 to 3: what was asked for is done, or isn't and why
--   memory, arguments                          4 and 5: an allocation failed, or an argument isn't as it has to be
--   no_block                                   7: no block is open. The header's own functions answer 6, where another call has the ledger
--   absent                                     8: nothing is there by this name
--   too_long                                   9: a search used up its steps
use Rattle.std.specs.Prelude.{ℤ, pos}

-- the call did what it was asked for
abbrev pub done : ℤ
done = pos 0

-- a module or a certificate is refused
abbrev pub refused : ℤ
refused = pos 1

-- bytes are no saved ledger
abbrev pub load_refused : ℤ
load_refused = pos 2

-- no certificate is looked for any longer
abbrev pub too_complex : ℤ
too_complex = pos 3

-- an allocation failed
abbrev pub memory : ℤ
memory = pos 4

-- an argument is not as it has to be
abbrev pub arguments : ℤ
arguments = pos 5

-- no block is open
abbrev pub no_block : ℤ
no_block = pos 7

-- nothing is there by this name
abbrev pub absent : ℤ
absent = pos 8

-- a search used up its steps
abbrev pub too_long : ℤ
too_long = pos 9
