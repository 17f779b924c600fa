-- The bundle or the run that stands at the front of bytes, and the bytes after it.
-- These read what RecordText.antt writes: each gives what stands at the front and the bytes after it, or nothing.
--   sized_from most                 bytes after their number
--   offer_from, offers_from         a module with its certificate, and the modules of a bundle
--   bundle_from                     the payload of a publish record
--   leaf_from kind, argument_from   a leaf, and an argument
--   run_from                        the payload of a run record
use Rattle.std.specs.Prelude.{ℕ, nat_lt, List, Some, None, map, nat_le, length}
use Rattle.std.specs.Bool.{then_some}
use Rattle.mv_uleb.specs.Parsing.{number_from}
use Rattle.mv_move_types.specs.Limits.{most_arguments, most_certificate_bytes, most_module_bytes, most_offers}
use Rattle.mv_move_types.specs.declared.token.LeafKind.{LeafKind}
use Rattle.mv_move_types.specs.declared.token.LeafKind.TheVariants.{Boolean, Number, Address, Signer}
use Rattle.mv_move_types.specs.Options.{◌>>=◌}
use Rattle.mv_module_text.specs.Parsing.{Read, byte_from, bytes_from, number_of_from, kind_of, counted_from, identifier_from, address_from}
use Rattle.mv_machine.specs.declared.Arg.{Arg}
use Rattle.mv_machine.specs.Arguments.{arg_value}
use Rattle.mv_machine.specs.Ledger.{Offer, RunRequest}

-- bytes after their number, of at most so many
abbrev pub sized_from : ℕ → List ℕ → Read (List ℕ)
sized_from most bytes = number_from most bytes >>= λ n. bytes_from n.0 n.1

-- a module and its certificate
abbrev pub offer_from : List ℕ → Read Offer
offer_from bytes = do
  text ← sized_from most_module_bytes bytes
  certificate ← sized_from most_certificate_bytes text.1
  Some (record { text = text.0; certificate = certificate.0 }, certificate.1)

-- the modules of a bundle, at least one
abbrev pub offers_from : List ℕ → Read (List Offer)
offers_from bytes = counted_from most_offers offer_from bytes >>= λ offers. then_some (nat_le 1 (length offers.0)) offers

-- a sender, and a bundle
abbrev pub bundle_from : List ℕ → Read (ℕ × List Offer)
bundle_from bytes = do
  sender ← address_from bytes
  offers ← offers_from sender.1
  Some ((sender.0, offers.0), offers.1)

-- a leaf of the kind
abbrev pub leaf_from : LeafKind → List ℕ → Read ℕ
leaf_from Boolean bytes = byte_from bytes >>= λ b. then_some (nat_lt b.0 2) b
leaf_from (Number w) bytes = number_of_from w bytes
leaf_from Address bytes = address_from bytes
leaf_from Signer bytes = None

-- an argument: its token, of any version, and its value
abbrev pub argument_from : List ℕ → Read Arg
argument_from bytes = do
  code ← byte_from bytes
  kind ← kind_of 6 code.0
  n ← leaf_from kind code.1
  Some (record { kind = kind; number = n.0 }, n.1)

-- a sender, the function's names, a budget and the arguments
abbrev pub run_from : List ℕ → Read RunRequest
run_from bytes = do
  sender ← address_from bytes
  home ← address_from sender.1
  name ← identifier_from home.1
  function ← identifier_from name.1
  budget ← number_from 18446744073709551615 function.1
  arguments ← counted_from most_arguments argument_from budget.1
  Some (
    record {
      sender = sender.0;
      home = record { address = home.0; name = name.0 };
      function = function.0;
      budget = budget.0;
      arguments = map arg_value arguments.0;
    },
    arguments.1,
  )
